-- `layers::add::add_byte` meets its contract: the rescaled offsets of two bytes are small enough to be added.
use mathlib.Core.Path.{◌≡◌, ◌∙◌, ap, ap₂}
use native.Mathlib.Omega.{arith}
use borrow.Author.Rules.{rules, sfits_of}
use lib.IntN.{nat_abs}
use mir.Syntax.{w32}
use mir.Val.{to_z, of_z}
use mir.ValLaws.{to_z-of_z}
use Rattle.numbers.specs.Addition.{offset, summed}
use Rattle.numbers.specs.Finish.{finished}
use Rattle.numbers.proofs.Added.{offset-small}
use Rattle.layers.specs.Add.{add_byte}
use Rattle.layers.proofs.add.add_byte.Goals as goal

pub summed_of-requires : goal.summed_of-requires
summed_of-requires c =
    let a = c.args in
    let x = offset-small a.q a.z a.a.first.multiplier a.a.first.shift (omega arith) (omega arith) (omega arith) in
    let y = offset-small a.r a.zr a.a.second.multiplier a.a.second.shift (omega arith) (omega arith) (omega arith) in
    let first : to_z w32 (of_z w32 c.offset_of-first.result) ≡ offset a.q a.z a.a.first.multiplier a.a.first.shift =
    to_z-of_z w32 _ (sfits_of c.offset_of-first.type_inv) ∙ c.offset_of-first.ensures in
    let second : to_z w32 (of_z w32 c.offset_of-second.result) ≡ offset a.r a.zr a.a.second.multiplier a.a.second.shift =
    to_z-of_z w32 _ (sfits_of c.offset_of-second.type_inv) ∙ c.offset_of-second.ensures in
    record {
      first_bound = (omega (arith, ap nat_abs first), omega (arith, ap nat_abs second));
      multiplier_bound = search rules;
    }

pub returns : goal.returns
unfolding add_byte
returns c =
    let a = c.args.a in
    let first = to_z-of_z w32 _ (sfits_of c.offset_of-first.type_inv) ∙ c.offset_of-first.ensures in
    let second = to_z-of_z w32 _ (sfits_of c.offset_of-second.type_inv) ∙ c.offset_of-second.ensures in
    c.finish.ensures ∙
    ap (λ x. finished x a.zero a.low a.high)
    (to_z-of_z w32 _ (sfits_of c.summed_of.type_inv) ∙ c.summed_of.ensures ∙
    ap₂ (λ x y. summed x y a.third.multiplier a.third.shift) first second)
