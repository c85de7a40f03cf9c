use mathlib.Core.Path.{◌≡◌, sym, ap, ◌∙◌}
use Prim.Native.Nat.{ℕ, ◌≤◌, ◌-◌, ◌+◌}
use native.Mathlib.Omega.{arith}
use lib.ListN.{length, drop}
use Rattle.number.specs.Fields.{field}
use Rattle.number.proofs.Cuts.{place_end, field-none, field_next, field-here}
use Rattle.number.proofs.field.Goals as goal

pub returns-then-e-s : goal.returns-then-e-s
returns-then-e-s c =
    sym (c.loop.invariant.1 ∙ field-none c.args.s.now c.loop.at (c.args.n - c.loop.counter) c.find_byte-e.result (omega arith) c.find_byte-e.ensures c.if-e-s.true)

pub overflow_add-at : goal.overflow_add-at
overflow_add-at c =
    omega (arith, place_end c.args.s.now c.loop.at c.find_byte-e.result c.loop.invariant.0 c.find_byte-e.ensures)

pub loop-preserved : goal.loop-preserved
loop-preserved c =
    let s = c.args.s.now in
    let h : c.find_byte-e.result ≤ length s = place_end s c.loop.at c.find_byte-e.result c.loop.invariant.0 c.find_byte-e.ensures in
    let e : c.args.n - c.loop.counter - 1 ≡ c.args.n - (c.loop.counter + 1) = omega arith in (
      omega arith,
      c.loop.invariant.1 ∙ field_next s c.loop.at (c.args.n - c.loop.counter) c.find_byte-e.result (omega arith) c.find_byte-e.ensures (omega arith)
          ∙ ap (λ (n : ℕ). field n (drop (c.find_byte-e.result + 1) s)) e,
    )

pub slice_bounds-result-end-2 : goal.slice_bounds-result-end-2
slice_bounds-result-end-2 c =
    omega (arith, place_end c.args.s.now c.loop.at c.find_byte-e-2.result c.loop.invariant.0 c.find_byte-e-2.ensures)

pub returns : goal.returns
returns c =
    let s = c.args.s.now in
    sym (c.loop.invariant.1 ∙ field-here s c.loop.at (c.args.n - c.loop.counter) c.find_byte-e-2.result (omega arith) c.find_byte-e-2.ensures)
