-- `ready_removal::index_of` meets its contract: the place that is found, or the length.
use Rattle.std.proofs.Common.{◌≡◌, ◌+◌, ◌≤◌, ℕ, suc, Bool, true, false, List, Option, Some, None, length, cond, eqb, ltb, refl, sym, ap, ◌∙◌, arith, rules, tests}
use Rattle.std.specs.List.{position_or_len}
use Rattle.std.specs.Option.{unwrap_or}
use borrow.Author.Tests.{ltb-false}
use Rattle.std.proofs.lemmas.Iterator.{YieldsList-from_slice}
use Rattle.std.proofs.lemmas.Iterator.Search.{position_from_yields_List}
use Rattle.std.proofs.lemmas.List.Sums.{prefix_len-le-length}
use Rattle.std.proofs.lemmas.List.Recursion.{is_position_or_len}
use Rattle.ready.specs.Private.{index_of}
use Rattle.ready_removal.proofs.index_of.Goals as goal

-- it is what std counts
counted : (i : ℕ) (xs : List ℕ) → index_of i xs ≡ position_or_len (λ x. eqb x i) xs
unfolding index_of
counted i xs = is_position_or_len (index_of i) (λ x. eqb x i) refl (λ x ys. ap (cond (eqb x i) 0) (one_more (index_of i ys))) xs
  where
    one_more : (n : ℕ) → suc n ≡ 1 + n
    one_more n = omega arith

-- and where none is found it is the length
chosen : (p n : ℕ) → p ≤ n → unwrap_or (cond (ltb p n) (Some p) None) n ≡ p
chosen p n h = go (ltb p n) refl
  where
    go : (b : Bool) → ltb p n ≡ b → unwrap_or (cond b (Some p) None) n ≡ p
    go true e = refl
    go false e = omega (arith, ltb-false p n e)

pub returns : goal.returns
returns c =
    let xs = c.args.list.now in
    let found = position_from_yields_List (λ x. eqb x c.args.i) _ _ c.position.result c.position.ensures.ran (YieldsList-from_slice xs cc) (λ x b q k. search (rules, tests)) in
    c.unwrap_or.ensures
    ∙ ap (λ (r : Option ℕ). unwrap_or r (length xs)) found
    ∙ chosen (position_or_len (λ x. eqb x c.args.i) xs) (length xs) (prefix_len-le-length _ xs)
    ∙ sym (counted c.args.i xs)
