-- Three parts, each into the rest of the output, until the budget is spent. Header and footer are made in an array first.
use mathlib.Core.Path.{◌≡◌, sym, ap, ◌∙◌}
use mathlib.Core.List.{List, ◌++◌, append_assoc}
use Prim.Native.Nat.{ℕ, ◌+◌, ◌-◌, ◌≤◌}
use native.Mathlib.Omega.{arith}
use lib.ListN.{length, take, length-append}
use Rattle.lists.specs.Write.{over}
use Rattle.lists.proofs.Wrote.{at_front, splice_all}
use Rattle.ape.specs.Tag.{block_bytes, header_flags, footer_flags}
use Rattle.ape.proofs.Files.{length-block}
use Rattle.ape_write.specs.Answers.{tag_parts}
use Rattle.tail_write.proofs.Sent.{send-first, send-rest, sent_front}
use Rattle.tail_write.proofs.put_parts_within.Goals as goal

-- what is written to the front of as many bytes is all that they hold then
all_of : (b w : List ℕ) {xs : List ℕ} → length b ≡ length w → xs ≡ over w b → xs ≡ w
all_of b w n e = e ∙ sym (at_front b w) ∙ splice_all b w n

pub returns : goal.returns
unfolding tag_parts
returns c =
    let g = c.args in
    let out = g.out.now in
    let s = g.area.now in
    let k = g.budget in
    let header = block_bytes (length s + 32) g.count header_flags in
    let footer = block_bytes (length s + 32) g.count footer_flags in
    let h32 : length header ≡ 32 = length-block (length s + 32) g.count header_flags in
    let f32 : length footer ≡ 32 = length-block (length s + 32) g.count footer_flags in
    let one : c.put_block.new.out ≡ header = all_of _ header (sym h32) c.put_block.ensures in
    let two : c.put_block-2.new.out ≡ footer = all_of _ footer (ap length one ∙ h32 ∙ sym f32) c.put_block-2.ensures in
    let room : length s + 64 ≤ length out = c.requires.1 in
    let e1 : c.put_within-a.result ≡ k - length header = c.put_within-a.ensures.0 ∙ ap (λ (l : List ℕ). k - length l) one in
    let w1 = send-first out header k (omega (arith, h32)) (c.put_within-a.ensures.1 ∙ ap (λ (l : List ℕ). over (take k l) out) one) in
    let w2 = send-rest w1 s 32 c.put_within-a.result (omega (arith, h32)) e1 (omega arith) _ c.put_within-b.ensures.1 in
    let long : length (header ++ s) ≡ 32 + length s = simp length-append (omega (arith, h32)) in
    let e2 : c.put_within-b.result ≡ k - length (header ++ s) = omega (arith, c.put_within-b.ensures.0, e1, long, h32) in
    let w3 = send-rest w2 footer (32 + length s) c.put_within-b.result (omega (arith, long)) e2 (omega (arith, f32)) _ (rw two at c.put_within.ensures.1) in
    let whole : (header ++ s) ++ footer ≡ header ++ (s ++ footer) = append_assoc header s footer in
    (omega (arith, c.put_within.ensures.0, ap length two, f32, e2, long), sent_front w3 ∙ ap (λ (l : List ℕ). over (take k l) out) whole)
