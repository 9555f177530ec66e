use mathlib.Core.Path.{◌≡◌, refl, ap₂, ◌∙◌}
use Prim.Native.Nat.{ℕ, ◌+◌, ◌*◌, ◌≤◌}
use native.Mathlib.Omega.{arith}
use lib.ListN.{length, get_or}
use Rattle.fields.specs.Shape.{bytes_of, row_bytes}
use Rattle.lists.proofs.Pasted.{apart_within}
use Rattle.layers.specs.Add.{add_byte}
use Rattle.layers.specs.Asked.{Placed}
use Rattle.lists.proofs.Laid.{laid_none, laid_store, laid_done, laid-at}
use Rattle.layers.proofs.Rows.{add_done}
use Rattle.layers.proofs.add.add_row.Goals as goal

pub loop-k-init : goal.loop-k-init
loop-k-init c = laid_none _ _ _ _

pub loop-k-preserved : goal.loop-k-preserved
loop-k-preserved c =
    let a = c.args in
    let d = a.area.now in
    let w = row_bytes a.y.output in
    let skip = a.i * row_bytes a.y.output in
    let byte = add_byte a.a a.first.zero a.second.zero in
    let at = c.row_start-at.result in
    -- a byte of a tensor is as it was
    let kept :
    (from : ℕ) (p : Placed a.y (length d) from) (start : ℕ) →
    from ≤ start →
    start + w ≤ from + bytes_of a.y.input →
    get_or c.loop-k.area (start + c.loop-k.k) 0 ≡ get_or d (start + c.loop-k.k) 0 =
    λ from p start b e.
    laid-at _ _ d at 0 (start + c.loop-k.k) (λ j. refl)
    (apart_within (bytes_of a.y.input) (bytes_of a.y.output) 1 w p.apart (omega arith) (omega arith) (omega arith) (omega arith))
    (omega arith) c.loop-k.invariant in
    laid_store w (λ j. byte (get_or d (c.row_start-q.result + j) 0) (get_or d (c.row_start-r.result + j) 0)) d at c.loop-k.k
    (omega arith) c.loop-k-test.true c.loop-k.invariant
    (c.add_byte.ensures ∙
    ap₂ byte (kept a.first.from c.requires.first _ (omega arith) (rw c.requires.ready.output c.row_start-q.ensures.within)) (kept a.second.from c.requires.second _ (omega arith) (rw c.requires.ready.output c.row_start-r.ensures.within)))

pub returns : goal.returns
returns c =
    let a = c.args in
    let shape = c.requires.ready.output in
    add_done a.a a.first.zero a.second.zero a.area.now a.first.from a.second.from a.y.place (bytes_of a.y.input) a.i (row_bytes a.y.output)
    (rw shape c.row_start-q.ensures.value) (rw shape c.row_start-r.ensures.value) c.row_start-at.ensures.value
    (rw (← shape) (omega (arith, c.row_start-at.ensures))) (laid_done _ _ _ _ c.loop-k.invariant (omega arith))
