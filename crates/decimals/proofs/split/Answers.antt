-- `decimals::split` meets its contract: the bits give the significand and its shift, and these the limbs.
use native.Mathlib.Omega.{arith}
use lib.Ieee.{binary64, to_bits}
use Rattle.decimals.proofs.BitsLaws.{number, fields, shift-most, field-most, split-is}
use Rattle.decimals.proofs.split.Goals as goal

pub float_to_bits-bits : goal.float_to_bits-bits
float_to_bits-bits c = number c.args.x c.requires.above

pub overflow_sub-shift : goal.overflow_sub-shift
overflow_sub-shift c =
    let f = fields c.args.x c.well_formed.0.1 c.requires in
    field-most c.args.x (to_bits binary64 c.args.x) c.requires f.0 f.1

pub overflow_shr-result : goal.overflow_shr-result
overflow_shr-result c =
    let f = fields c.args.x c.well_formed.0.1 c.requires in
    let h = shift-most c.args.x (to_bits binary64 c.args.x) c.requires f.0 f.1 in
    omega (arith, h)

pub overflow_sub-result : goal.overflow_sub-result
overflow_sub-result c =
    let f = fields c.args.x c.well_formed.0.1 c.requires in
    let h = shift-most c.args.x (to_bits binary64 c.args.x) c.requires f.0 f.1 in
    omega (arith, h)

pub returns : goal.returns
returns c =
    let f = fields c.args.x c.well_formed.0.1 c.requires in
    split-is c.args.x (to_bits binary64 c.args.x) c.requires f.0 f.1
