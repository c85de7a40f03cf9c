-- What replacement wrote is read back, and a settled file is exactly the file of a sound book.
use Prim.Native.Nat.{ℕ, ◌+◌, ◌-◌, ◌≤◌, ◌<◌}
use native.Mathlib.Omega.{arith}
use mathlib.Core.Path.{◌≡◌, refl, sym, ap, ◌∙◌}
use mathlib.Core.Logic.{◌↔◌, ◌⊎◌, inl, inr}
use mathlib.Core.Bool.{Bool, true, false, false≢true}
use Rattle.std.specs.Prelude.{Option, None, Some}
use mathlib.Core.List.{List, [], ◌∷◌, ◌++◌}
use lib.ListN.{length, take, drop, length-append, length-drop, length-take, take-append-drop}
use lib.Seq.{length-take-le, drop-append-le, drop_at, drop-length}
use lib.Dec.{leb, ltb}
use borrow.Author.Tests.{not-true}
use Rattle.lists.specs.Bytes.{same, starts_with}
use Rattle.lists.specs.Choice.{is_some}
use Rattle.lists.specs.Le.{read_u32}
use Rattle.lists.proofs.Same.{same_true, same_refl, starts-append}
use Rattle.frame.specs.Tail.{preamble, id3v1_mark, stands_at, ends_with_id3v1, reach, start_of, tag_start}
use Rattle.frame.proofs.Tails.{stands-in, start-there}
use Rattle.items.specs.Items.{Item, area_bytes, parse, items_in}
use Rattle.items.proofs.Area.{AllSane, count-items, area-length}
use Rattle.items.proofs.ItemLaws.{parse-keys, sane-both}
use Rattle.ape.specs.Tag.{block_bytes, tag_bytes, serialize, find_footer, started, size_at, count_at, area_at, read_tag, Split, moved, split, file_of, replaced}
use Rattle.ape.proofs.Files.{stands-long, footer-within}
use Rattle.calls.specs.Gate.{all_valid, gate_items, passes_gate, items_of}
use Rattle.book.specs.Book.{settled, Book, book_of, book_file}
use Rattle.calls.proofs.Lists.{both}
use Rattle.calls.proofs.Gates.{gate-footer, fit-tests}
use Rattle.calls.proofs.Items.{valid-flags}
use Rattle.book.proofs.Sound.{Back, bare, id3, Good, Sound}
use Rattle.book.proofs.Reading.{law-split, law-gate, law-passes, law-items, law-replaced, law-read, as_read, Headed, law-header}

-- ---- where a file is cut

-- nothing, or an ID3v1 block
abbrev pub Behind : List ℕ → Type 0
Behind b = (b ≡ []) ⊎ ((length b ≡ 128) × (ends_with_id3v1 b ≡ true))

-- what a front and a back always are
pub record Cut (x : Split) : Type 0 where
  pub behind : Behind x.back
  pub no-id3 : x.back ≡ [] → ends_with_id3v1 x.front ≡ false

-- what stands at EOF-n stands there in the last m bytes
stands-last : (n m : ℕ) (p s : List ℕ) → n ≤ m → m ≤ length s → stands_at n p (drop (length s - m) s) ≡ stands_at n p s
stands-last n m p s h k =
    let e : stands_at n p (take (length s - m) s ++ drop (length s - m) s) ≡ stands_at n p (drop (length s - m) s)
    = stands-in n p (take (length s - m) s) (drop (length s - m) s) (rw length-drop (omega arith)) in
    sym e ∙ ap (stands_at n p) (take-append-drop (length s - m) s)

last-id3 : (s : List ℕ) → ends_with_id3v1 s ≡ true → (length (drop (length s - 128) s) ≡ 128) × (ends_with_id3v1 (drop (length s - 128) s) ≡ true)
last-id3 s t =
    let h : 128 ≤ length s = stands-long 128 id3v1_mark s t in
    (rw length-drop (omega arith), stands-last 128 128 id3v1_mark s (omega arith) h ∙ t)

long-not-nil : (b : List ℕ) → length b ≡ 128 → b ≡ [] → ⊥
long-not-nil b l e = omega (arith, ap length e, l)

moved_none : (a : List ℕ) → Cut (moved a [])
unfolding moved
moved_none a = go (ends_with_id3v1 a) refl
  where
    go : (t : Bool) → ends_with_id3v1 a ≡ t → Cut (moved a [])
    go true t = let (l, q) = last-id3 a t in rw t (record { behind = inr (l, q); no-id3 = λ e. absurd (long-not-nil _ l e) })
    go false t = rw t (record { behind = inl refl; no-id3 = λ e. t })

-- an ID3v1 block that follows stays
move-id3 : (a b : List ℕ) → length b ≡ 128 → moved a b ≡ record { front = a; back = b }
unfolding moved
move-id3 a [] l = absurd (omega arith)
move-id3 a (x ∷ b) l = refl

moved-cut : (a b : List ℕ) → Behind b → Cut (moved a b)
moved-cut a b (inl e) = rw e (moved_none a)
moved-cut a b (inr (l, t)) = rw (move-id3 a b l) (record { behind = inr (l, t); no-id3 = λ e. absurd (long-not-nil b l e) })

-- where a footer is found
data Where (s : List ℕ) : Type 0 where
  at-end : stands_at 32 preamble s ≡ true → find_footer s ≡ Some (length s - 32) → Where s
  before : stands_at 32 preamble s ≡ false → stands_at 160 preamble s ≡ true → ends_with_id3v1 s ≡ true → find_footer s ≡ Some (length s - 160) → Where s
  nowhere : stands_at 32 preamble s ≡ false → find_footer s ≡ None → Where s

where-is : (s : List ℕ) → Where s
unfolding find_footer
where-is s = go (stands_at 32 preamble s) (stands_at 160 preamble s) (ends_with_id3v1 s) refl refl refl
  where
    go : (a b c : Bool) → stands_at 32 preamble s ≡ a → stands_at 160 preamble s ≡ b → ends_with_id3v1 s ≡ c → Where s
    go true b c ea eb ec = at-end ea (rw ea)
    go false true true ea eb ec = before ea eb ec (rw (ea, eb, ec))
    go false true false ea eb ec = nowhere ea (rw (ea, eb, ec))
    go false false c ea eb ec = nowhere ea (rw (ea, eb))

-- what follows a footer is nothing or an ID3v1 block
rest_end : (s : List ℕ) → stands_at 32 preamble s ≡ true → drop (length s - 32 + 32) s ≡ []
rest_end s a =
    let k : 32 ≤ length s = stands-long 32 preamble s a in
    let d : length s - 32 + 32 ≡ length s = omega arith in
    rw d (drop-length s)

rest-before : (s : List ℕ) → stands_at 160 preamble s ≡ true → drop (length s - 160 + 32) s ≡ drop (length s - 128) s
rest-before s b =
    let k : 160 ≤ length s = stands-long 160 preamble s b in
    let d : length s - 160 + 32 ≡ length s - 128 = omega arith in
    rw d

split-none : (s : List ℕ) → find_footer s ≡ None → split s ≡ moved s []
unfolding split
split-none s e = rw e

split-unstarted : (s : List ℕ) (f : ℕ) → find_footer s ≡ Some f → tag_start s f ≡ None → split s ≡ moved s []
unfolding split
split-unstarted s f e g = rw (e, g)

split_started : (s : List ℕ) (f a : ℕ) → find_footer s ≡ Some f → tag_start s f ≡ Some a → split s ≡ moved (take a s) (drop (f + 32) s)
unfolding split
split_started s f a e g = rw (e, g)

split-footed : (s : List ℕ) (f : ℕ) → find_footer s ≡ Some f → Behind (drop (f + 32) s) → Cut (split s)
split-footed s f e b = go (tag_start s f) refl
  where
    go : (t : Option ℕ) → tag_start s f ≡ t → Cut (split s)
    go (Some a) q = rw (split_started s f a e q) (moved-cut (take a s) (drop (f + 32) s) b)
    go None q = rw (split-unstarted s f e q) (moved_none s)

-- every file is cut so
pub split-cut : (s : List ℕ) → Cut (split s)
split-cut s = go (where-is s)
  where
    go : Where s → Cut (split s)
    go (at-end a e) = split-footed s (length s - 32) e (inl (rest_end s a))
    go (before a b t e) = split-footed s (length s - 160) e (inr (rw (rest-before s b) (last-id3 s t)))
    go (nowhere a e) = rw (split-none s e) (moved_none s)

-- ---- replacement

-- no block that begins `APETAGEX` stands at the end of what precedes the tag, nor of what follows it
pub record Quiet (s : List ℕ) : Type 0 where
  pub front-quiet : stands_at 32 preamble (split s).front ≡ false
  pub back-quiet : stands_at 32 preamble (split s).back ≡ false

back-of : (b : List ℕ) → Behind b → stands_at 32 preamble b ≡ false → Back b
back-of b (inl e) q = rw e bare
back-of b (inr (l, t)) q = id3 l t q

-- any good items make a sound book of such a file's front and back
pub quiet-sound : (s : List ℕ) → Quiet s → (ts : List Item) → Good ts → Sound (split s).front ts (split s).back
quiet-sound s q ts g =
    let c = split-cut s in
    record { behind = back-of _ c.behind q.back-quiet; no-footer = q.front-quiet; no-id3 = c.no-id3; good = g }

module _ (s : List ℕ) (q : Quiet s) (ts : List Item) (g : Good ts) where
  -- reading a file that replacement wrote gives the items back, and so does the gate
  pub read-replaced : read_tag (replaced s ts) ≡ as_read ts
  unfolding replaced
  read-replaced = law-read _ ts _ (quiet-sound s q ts g)

  pub gate-replaced : gate_items (replaced s ts) ≡ Some ts
  unfolding replaced
  gate-replaced = law-gate _ ts _ (quiet-sound s q ts g)

  pub items-replaced : items_of (replaced s ts) ≡ ts
  unfolding replaced
  items-replaced = law-items _ ts _ (quiet-sound s q ts g)

  -- splitting it gives the file's own front and back
  pub split-replaced : split (replaced s ts) ≡ split s
  unfolding replaced
  split-replaced = law-split _ ts _ (quiet-sound s q ts g)

  -- so a second replacement is as if there had been no first; by the same items it changes nothing
  pub replaced-replaced : (new : List Item) → replaced (replaced s ts) new ≡ replaced s new
  unfolding replaced
  replaced-replaced new = rw split-replaced

-- ---- what the gate passed

-- what the gate needed of the footer at f
record Gated (s : List ℕ) (f : ℕ) (ts : List Item) : Type 0 where
  start : ℕ
  starts : tag_start s f ≡ Some start
  room : start ≤ f
  good : Good ts

start-of : (f size flags : ℕ) → started (start_of f size flags) false (λ n. true) ≡ true → 32 ≤ size → (a : ℕ) × (start_of f size flags ≡ Some a) × (a ≤ f)
unfolding start_of
start-of f size flags e h = go (ltb (f + 32) (reach size flags)) refl
  where
    go : (t : Bool) → ltb (f + 32) (reach size flags) ≡ t → (a : ℕ) × (start_of f size flags ≡ Some a) × (a ≤ f)
    go true q = absurd (false≢true (rw q at e))
    go false q = (f + 32 - reach size flags, rw q, omega arith)

area-long : (s : List ℕ) (f : ℕ) → length (area_at s f) ≤ size_at s f - 32
unfolding area_at
area-long s f = rw length-take (omega arith)

-- what was parsed, and is valid, can be written
parsed : (n : ℕ) (s : List ℕ) (ts : List Item) → parse n s ≡ Some ts → all_valid ts ≡ true → AllSane ts × (length ts ≡ n) × (length (area_bytes ts) ≡ length s)
parsed n s ts e v =
    let i : items_in n s ≡ ts = rw e in
    let k : is_some (parse n s) ≡ true = rw e in
    (sane-both ts (rw (← i) (parse-keys n s)) (valid-flags ts v), rw (← i) (count-items n s k), rw (← i) (area-length n s k))

gated : (s : List ℕ) (f : ℕ) → find_footer s ≡ Some f → passes_gate s ≡ true → Gated s f (items_of s)
gated s f e g =
    let (c, p, v) = gate-footer s f e g in
    let t = fit-tests s f c in
    let q = start-there s f (footer-within s f e) in
    let (a, b, r) = start-of f (size_at s f) (read_u32 s (f + 20)) (rw q at t.2) t.1 in
    let (x, y, z) = parsed (count_at s f) (area_at s f) (items_of s) p v in
    record {
      start = a;
      starts = q ∙ b;
      room = r;
      good = record { sane = x; valid = v; few = omega arith; small = omega (arith, area-long s f) };
    }

nothing : Good []
unfolding area_bytes all_valid
nothing = record { sane = tt; valid = refl; few = omega arith; small = omega arith }

-- the items of a file that the gate passes can be written
gate-nothing : (s : List ℕ) → find_footer s ≡ None → items_of s ≡ []
unfolding items_of gate_items
gate-nothing s e = rw e

pub gate-good : (s : List ℕ) → passes_gate s ≡ true → Good (items_of s)
gate-good s e = go (find_footer s) refl
  where
    go : (x : Option ℕ) → find_footer s ≡ x → Good (items_of s)
    go None q = rw (gate-nothing s q) nothing
    go (Some f) q = (gated s f q e).good

-- replacing by a file's own items twice is replacing once
pub replaced-twice : (s : List ℕ) → Quiet s → passes_gate s ≡ true
    → replaced (replaced s (items_of s)) (items_of (replaced s (items_of s))) ≡ replaced s (items_of s)
replaced-twice s q e =
    let g = gate-good s e in
    rw (items-replaced s q (items_of s) g) (replaced-replaced s q (items_of s) g (items_of s))

-- ---- settled files

-- what settled says
record Settled (s : List ℕ) : Type 0 where
  passes : passes_gate s ≡ true
  same-file : replaced s (items_of s) ≡ s
  quiet : stands_at 32 preamble (split s).front ≡ false

settled_says : (s : List ℕ) → settled s ≡ true → Settled s
unfolding settled
settled_says s e =
    let (a, b) = both (passes_gate s) _ e in
    let (c, d) = both (same (replaced s (items_of s)) s) _ b in
    record { passes = a; same-file = same_true _ _ c; quiet = not-true _ d }

stands-starts : (n : ℕ) (p s : List ℕ) → stands_at n p s ≡ true → starts_with p (drop (length s - n) s) ≡ true
unfolding stands_at
stands-starts n p s e = (both (leb n (length s)) (starts_with p (drop (length s - n) s)) e).1

no-tag-mark : (ts : List Item) (s : List ℕ) → starts_with id3v1_mark (tag_bytes ts ++ s) ≡ false
unfolding starts_with tag_bytes block_bytes
no-tag-mark ts s = refl

-- a tag at the end, and audio that ends in an ID3v1 block: no settled file has both, since replacement would swap them
swapped : (p rest : List ℕ) (ts : List Item) → 0 < length rest → ends_with_id3v1 p ≡ true
    → file_of (take (length p - 128) p) ts (drop (length p - 128) p) ≡ p ++ rest → ⊥
unfolding file_of serialize
swapped p rest [] h t e =
    let l : length p ≡ length p + length rest = rw (take-append-drop, length-append) at (ap length e) in
    omega arith
swapped p rest (x ∷ ts) h t e =
    let n : ℕ = length p - 128 in
    let long : 128 ≤ length p = stands-long 128 id3v1_mark p t in
    let b : List ℕ = drop n p in
    let l : drop n (take n p ++ (tag_bytes (x ∷ ts) ++ b)) ≡ tag_bytes (x ∷ ts) ++ b = drop_at (take n p) (tag_bytes (x ∷ ts) ++ b) n (length-take-le n p (omega arith)) in
    let r : drop n (p ++ rest) ≡ b ++ rest = drop-append-le n p rest (omega arith) in
    let m : tag_bytes (x ∷ ts) ++ b ≡ b ++ rest = sym l ∙ ap (drop n) e ∙ r in
    let st : starts_with id3v1_mark (b ++ rest) ≡ true = starts-append id3v1_mark b rest (rw length-drop (omega arith)) ∙ stands-starts 128 id3v1_mark p t in
    false≢true (sym (no-tag-mark (x ∷ ts) b) ∙ ap (starts_with id3v1_mark) m ∙ st)

-- no footer at EOF-32 of a file: none at EOF-32 of its last 128 bytes
last-quiet : (s : List ℕ) → ends_with_id3v1 s ≡ true → stands_at 32 preamble s ≡ false → stands_at 32 preamble (drop (length s - 128) s) ≡ false
last-quiet s t a = stands-last 32 128 preamble s (omega arith) (stands-long 128 id3v1_mark s t) ∙ a

nil-quiet : stands_at 32 preamble [] ≡ false
unfolding stands_at
nil-quiet = refl

quiet_none : (s : List ℕ) → stands_at 32 preamble s ≡ false → stands_at 32 preamble (moved s []).back ≡ false
unfolding moved
quiet_none s a = go (ends_with_id3v1 s) refl
  where
    go : (t : Bool) → ends_with_id3v1 s ≡ t → stands_at 32 preamble (moved s []).back ≡ false
    go true t = rw t (last-quiet s t a)
    go false t = rw t nil-quiet

quiet-end : (p rest : List ℕ) (ts : List Item) → 0 < length rest → file_of (moved p []).front ts (moved p []).back ≡ p ++ rest
    → stands_at 32 preamble (moved p []).back ≡ false
unfolding moved
quiet-end p rest ts h e = go (ends_with_id3v1 p) refl
  where
    go : (t : Bool) → ends_with_id3v1 p ≡ t → stands_at 32 preamble (moved p []).back ≡ false
    go true t = absurd (swapped p rest ts h t (rw t at e))
    go false t = rw t nil-quiet

-- no footer hides the tag of a settled file
settled-quiet : (s : List ℕ) → Settled s → Quiet s
unfolding replaced
settled-quiet s h = go (where-is s)
  where
    go : Where s → Quiet s
    go (nowhere a e) = record { front-quiet = h.quiet; back-quiet = rw (split-none s e) (quiet_none s a) }
    go (before a b t e) =
        let g = gated s (length s - 160) e h.passes in
        let (l, _) = last-id3 s t in
        let m : split s ≡ record { front = take g.start s; back = drop (length s - 128) s }
        = split_started s (length s - 160) g.start e g.starts ∙ ap (moved (take g.start s)) (rest-before s b) ∙ move-id3 _ _ l in
        record { front-quiet = h.quiet; back-quiet = rw m (last-quiet s t a) }
    go (at-end a e) =
        let g = gated s (length s - 32) e h.passes in
        let k : 32 ≤ length s = stands-long 32 preamble s a in
        let p : List ℕ = take g.start s in
        let m : split s ≡ moved p [] = split_started s (length s - 32) g.start e g.starts ∙ ap (moved p) (rest_end s a) in
        let all : file_of (moved p []).front (items_of s) (moved p []).back ≡ p ++ drop g.start s
        = (rw m at h.same-file) ∙ sym (take-append-drop g.start s) in
        record { front-quiet = h.quiet; back-quiet = rw m (quiet-end p (drop g.start s) (items_of s) (rw length-drop (omega (arith, g.room))) all) }

-- a settled file is the file of its book, which is sound
pub settled-sound : (s : List ℕ) → settled s ≡ true → Sound (split s).front (items_of s) (split s).back
settled-sound s e = let h = settled_says s e in quiet-sound s (settled-quiet s h) (items_of s) (gate-good s h.passes)

pub settled-book : (s : List ℕ) → settled s ≡ true → book_file (book_of s) ≡ s
unfolding replaced book_file book_of
settled-book s e = (settled_says s e).same-file

-- and the file of a sound book is settled
pub sound-settled : (front : List ℕ) (ts : List Item) (back : List ℕ) → Sound front ts back → settled (file_of front ts back) ≡ true
unfolding settled
sound-settled front ts back s =
    rw (law-passes front ts back s, law-items front ts back s, law-replaced front ts back s ts, same_refl (file_of front ts back), law-split front ts back s, s.no-footer)

-- s is the file of a sound book
pub record SoundFile (s : List ℕ) : Type 0 where
  pub book : Book
  pub sound : Sound book.front book.items book.back
  pub file : s ≡ book_file book

-- a settled file is exactly the file of a sound book
pub settled-exactly : (s : List ℕ) → (settled s ≡ true) ↔ SoundFile s
unfolding book_file book_of
settled-exactly s = (
  λ e. record { book = book_of s; sound = settled-sound s e; file = sym (settled-book s e) },
  λ x. rw x.file (sound-settled _ _ _ x.sound),
)

-- a settled file with a footer has bit 31 set and the header that the gate then asks for, as the writer put it there
pub settled-headed : (s : List ℕ) (f : ℕ) → settled s ≡ true → find_footer s ≡ Some f → Headed s f
unfolding book_file
settled-headed s f e g = go ((settled-exactly s).0 e)
  where
    go : SoundFile s → Headed s f
    go x = rw x.file (law-header _ _ _ f x.sound (sym (ap find_footer x.file) ∙ g))
