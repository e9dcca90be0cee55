-- `text_numbers::is_digit` meets its contract.
use Rattle.std.proofs.Common.{◌≡◌, Bool, true, false, cond, ◌&&◌, leb, refl, ◌∙◌}
use Rattle.base.specs.Tests.{all}
use Rattle.base.proofs.TestLaws.{all_one}
use Rattle.text_numbers.proofs.is_digit.Goals as goal

two-tests : (x y : Bool) → x && y ≡ cond x y false
two-tests true y = refl
two-tests false y = refl

pub returns : goal.returns
unfolding all
returns c = rw (all_one _) (c.is_ascii_digit.ensures.value ∙ two-tests (leb 48 c.args.b) (leb c.args.b 57))
