-- `windows::dots::dot` meets its contract: the blocks of 32, those of 8 and the pairs after them make Σqw, which fits.
use Rattle.std.proofs.Common.{arith, take, length, ◌≡◌, ◌∙◌, ◌+◌, ◌*◌, ◌≤◌, sym, ap}
use lib.Seq.{take_all}
use Rattle.numbers.specs.Total.{dot}
use Rattle.windows.proofs.Steps.{dots_of, dot_blocks, dot_most}
use Rattle.windows.proofs.dots.dot.Goals as goal
use Rattle.windows.proofs.dots.dot.Goals.{After-as_chunks-4}

-- the parts make the whole, which is small
parts :
    (c : goal.After-as_chunks-4) →
    (dots_of c.as_chunks.result.0.now c.as_chunks-2.result.0.now + dots_of c.as_chunks-3.result.0.now c.as_chunks-4.result.0.now +
    dot c.as_chunks-3.result.1.now c.as_chunks-4.result.1.now ≡ dot c.args.q.now c.args.w.now) ×
    (dot c.args.q.now c.args.w.now ≤ 65025 * length c.args.q.now)
parts c =
    let a = c.args in
    let same = take_all (length a.q.now) a.w.now (omega (arith, c.requires.pairs)) in
    let long = dot_blocks 32 a.q.now (take (length a.q.now) a.w.now) (c.requires.pairs ∙ sym (ap length same))
    c.as_chunks.ensures.front c.as_chunks.ensures.back c.as_chunks-2.ensures.front c.as_chunks-2.ensures.back in
    let short = dot_blocks 8 c.as_chunks.result.1.now c.as_chunks-2.result.1.now long.1
    c.as_chunks-3.ensures.front c.as_chunks-3.ensures.back c.as_chunks-4.ensures.front c.as_chunks-4.ensures.back in (
      omega (arith, long.0, short.0, ap (dot a.q.now) same),
      dot_most a.q.now a.w.now (λ i. omega (arith, (c.type_inv.q i).fits)) (λ i. omega (arith, (c.type_inv.w i).fits)),
    )

pub blocks-long-requires : goal.blocks-long-requires
blocks-long-requires c = omega (arith, parts (goal.at.blocks-long-requires c).After-as_chunks-4)

pub blocks-short-requires : goal.blocks-short-requires
blocks-short-requires c = omega (arith, parts (goal.at.blocks-short-requires c).After-as_chunks-4)

pub overflow_add-result : goal.overflow_add-result
overflow_add-result c = omega (arith, parts (goal.at.overflow_add-result c).After-as_chunks-4)

pub overflow_add-result-2 : goal.overflow_add-result-2
overflow_add-result-2 c = omega (arith, parts (goal.at.overflow_add-result-2 c).After-as_chunks-4)

pub returns : goal.returns
returns c =
    let all = parts (goal.at.returns c).After-as_chunks-4 in
    record { value = omega (arith, all); bound = omega (arith, all) }
