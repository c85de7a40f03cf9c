-- The tag is read into the lent array, which holds its items, and listed from there.
use mathlib.Core.Path.{◌≡◌, ap, ◌∙◌}
use Rattle.std.specs.Prelude.{Some, Ok}
use mathlib.Core.List.{List, [], ◌∷◌}
use Prim.Native.Nat.{ℕ, ◌*◌, ◌≤◌}
use native.Mathlib.Nat.{zero-add}
use native.Mathlib.Omega.{arith}
use lib.ListN.{length, take}
use Rattle.lists.specs.Write.{over}
use Rattle.lists.proofs.Wrote.{at_front}
use Rattle.replies.specs.Refusal.{yes}
use Rattle.items.specs.Items.{parse}
use Rattle.items.proofs.Area.{parse-fits, back-good}
use Rattle.ape.specs.Tag.{read_tag}
use Rattle.ape.specs.Answers.{read_area, read_plan, read_answer, read_bytes}
use Rattle.listing.proofs.Tags.{read-yes, short-listing, Read, read-items, read_none, read-refused, items_back, none-listing}
use Rattle.listing.proofs.list_in.Goals as goal
use Rattle.listing.proofs.list_in.Goals.{After-read_ape_tag, In-Ok-Some, Start}

-- the fixed text
abbrev untagged : List ℕ
untagged = 0x69 ∷ 0x74 ∷ 0x65 ∷ 0x6D ∷ 0x73 ∷ 0x3D ∷ 0x6E ∷ 0x6F ∷ 0x6E ∷ 0x65 ∷ 0x0A ∷ []

-- the file is short, and nothing is refused
plan : (b : Start) → read_plan b.args.file.now (length b.args.area.now) ≡ yes (read_tag b.args.file.now)
plan b = read-yes b.args.file.now b.requires.0 (length b.args.area.now) b.requires.1

answer : (c : After-read_ape_tag) → c.read_ape_tag.result ≡ read_answer (yes (read_tag c.args.file.now))
answer c = c.read_ape_tag.ensures.0 ∙ ap read_answer ((let it : read_plan c.args.file.now (length c.args.area.now) ≡ yes (read_tag c.args.file.now) = read-yes c.args.file.now c.requires.0 (length c.args.area.now) c.requires.1 in it))

-- what stands in the array
abbrev array : (c : After-read_ape_tag) → List ℕ
array c = c.read_ape_tag.new.area

wrote : (c : After-read_ape_tag) → array c ≡ over (read_area (read_tag c.args.file.now)) c.args.area.now
wrote c = c.read_ape_tag.ensures.1 ∙ ap (λ p. over (read_bytes p) c.args.area.now) ((let it : read_plan c.args.file.now (length c.args.area.now) ≡ yes (read_tag c.args.file.now) = read-yes c.args.file.now c.requires.0 (length c.args.area.now) c.requires.1 in it))

-- there is a tag
there : (c : In-Ok-Some) → Read (read_tag c.args.file.now) c.in-Ok-Some.size.count c.in-Ok-Some.size.length
there c = read-items (read_tag c.args.file.now) ((let it : c.read_ape_tag.result ≡ read_answer (yes (read_tag c.args.file.now)) = c.read_ape_tag.ensures.0 ∙ ap read_answer ((let it : read_plan c.args.file.now (length c.args.area.now) ≡ yes (read_tag c.args.file.now) = read-yes c.args.file.now c.requires.0 (length c.args.area.now) c.requires.1 in it)) in it)) (c.in-Ok-Some.is ∙ ap Ok c.in-Ok-Some.field-0-is)

back : (c : In-Ok-Some) → let n = c.in-Ok-Some.size.count in let l = c.in-Ok-Some.size.length in
    (parse n (take l c.read_ape_tag.new.area) ≡ Some (there c).items) × (length (take l c.read_ape_tag.new.area) ≡ l) × (l ≤ 3 * length c.args.file.now)
back c = items_back c.args.file.now (λ i. omega (arith, c.shared_slice_known-1.given i)) c.requires.0 (there c) c.read_ape_tag.new.area c.args.area.now ((let it : c.read_ape_tag.new.area ≡ over (read_area (read_tag c.args.file.now)) c.args.area.now = c.read_ape_tag.ensures.1 ∙ ap (λ p. over (read_bytes p) c.args.area.now) ((let it : read_plan c.args.file.now (length c.args.area.now) ≡ yes (read_tag c.args.file.now) = read-yes c.args.file.now c.requires.0 (length c.args.area.now) c.requires.1 in it)) in it))

pub put_listed-requires : goal.put_listed-requires
put_listed-requires c =
    let b = back (goal.at.put_listed-requires c).In-Ok-Some in
    let n = c.in-Ok-Some.size.count in
    let s = take c.in-Ok-Some.size.length (array (goal.at.put_listed-requires c).After-read_ape_tag) in
    let g = back-good n s b.0 in
    (g.0, omega (arith, parse-fits n s g.0, b.1, b.2, c.requires.0), omega (arith, b.1, b.2, c.requires.0))

pub returns-in-Ok-Some : goal.returns-in-Ok-Some
returns-in-Ok-Some c =
    let n = c.in-Ok-Some.size.count in
    let s = take c.in-Ok-Some.size.length (array (goal.at.returns-in-Ok-Some c).After-read_ape_tag) in
    let g = back-good n s (back (goal.at.returns-in-Ok-Some c).In-Ok-Some).0 in
    rw (short-listing c.args.file.now c.requires.0, (there (goal.at.returns-in-Ok-Some c).In-Ok-Some).is, ← g.1) c.put_listed.ensures

pub returns-in-Ok-None : goal.returns-in-Ok-None
returns-in-Ok-None c =
    rw (short-listing c.args.file.now c.requires.0, read_none (read_tag c.args.file.now) (answer (goal.at.returns-in-Ok-None c).After-read_ape_tag) (c.in-Ok-None.is ∙ ap Ok c.in-Ok-None.field-0-is), none-listing)
    (c.put.ensures.0 ∙ zero-add (length untagged), c.put.ensures.1 ∙ at_front c.args.text.now untagged)

pub returns-in-Err : goal.returns-in-Err
returns-in-Err c = absurd (read-refused (read_tag c.args.file.now) (answer (goal.at.returns-in-Err c).After-read_ape_tag) c.in-Err.is)
