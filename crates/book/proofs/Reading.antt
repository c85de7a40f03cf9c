-- Footer search, split, gate and reading of a sound book's file give back the book.
use Prim.Native.Nat.{ℕ, ◌+◌, ◌-◌, ◌≤◌, ◌<◌}
use native.Mathlib.Omega.{arith}
use mathlib.Core.Path.{◌≡◌, refl, sym, ap, ◌∙◌}
use mathlib.Core.Bool.{Bool, true, false, ◌||◌, and-false}
use Rattle.std.specs.Prelude.{Option, None, Some}
use mathlib.Core.List.{List, [], ◌∷◌, ◌++◌, append_assoc, append-nil}
use lib.ListN.{length, take, drop, length-append}
use lib.Seq.{drop-append_seam, take-append_seam, take_at, drop_at}
use borrow.Author.Tests.{le-leb, eq-eqb}
use Rattle.lists.specs.Bytes.{starts_with}
use Rattle.lists.specs.Le.{read_u32}
use Rattle.replies.specs.Limits.{count_limit}
use Rattle.frame.specs.Tail.{preamble, id3v1_mark, stands_at, ends_with_id3v1, has_header, tag_start}
use Rattle.frame.proofs.Tails.{stands-in, stands-before, start-there, start-headed}
use Rattle.utf8.specs.Utf8.{valid}
use Rattle.lossy.proofs.Laws.{lossy-valid}
use Rattle.items.specs.Items.{Item, item_bytes, area_bytes, is_binary}
use Rattle.items.proofs.Area.{AllSane, parse-area, head-item, length-item}
use Rattle.ape.specs.Tag.{block_bytes, header_flags, footer_flags, tag_bytes, serialize, find_footer, version_at, size_at, count_at, area_at, read_value, read_items, read_tag, moved, split, file_of, replaced}
use Rattle.ape.proofs.Files.{length-block}
use Rattle.ape.proofs.Reading.{binary-value, text-value}
use Rattle.ape.proofs.Tail.{at-seam}
use Rattle.calls.specs.Gate.{header_at, fit, flags_fit, item_valid, all_valid, gate_items, passes_gate, items_of}
use Rattle.calls.proofs.Lists.{both}
use Rattle.book.proofs.Sound.{Back, bare, id3, Good, Sound}

-- ---- the footer

block-mark : (z n f : ℕ) → stands_at 32 preamble (block_bytes z n f) ≡ true
unfolding block_bytes stands_at starts_with
block-mark z n f = refl

-- what stands at EOF-k in what follows e stands there in the whole file
past : (k : ℕ) (p pre e back : List ℕ) → k ≤ length back → stands_at k p (pre ++ (e ++ back)) ≡ stands_at k p back
past k p pre e back h = sym (ap (stands_at k p) (append_assoc pre e back)) ∙ stands-in k p (pre ++ e) back h

-- the footer found at its place
find-tag : (pre back : List ℕ) (z n f : ℕ) → Back back → find_footer (pre ++ (block_bytes z n f ++ back)) ≡ Some (length pre)
unfolding find_footer
find-tag pre back z n f bare =
    rw (append-nil, stands-in 32 preamble pre (block_bytes z n f) (omega (arith, length-block z n f)), block-mark z n f)
    (ap Some (simp (length-append, length-block) (omega arith)))
find-tag pre back z n f (id3 {b} l t a) =
    let e : List ℕ = block_bytes z n f in
    let le : length (e ++ b) ≡ 160 = simp (length-append, length-block) (omega arith) in
    rw (
      past 32 preamble pre e b (omega arith),
      a,
      past 128 id3v1_mark pre e b (omega arith),
      t,
      stands-in 160 preamble pre (e ++ b) (omega arith),
      stands-before 32 128 preamble e b (omega arith) l,
      block-mark z n f,
    )
    (ap Some (simp (length-append, length-block) (omega arith)))

-- no items: no footer
find_none : (front back : List ℕ) → Back back → stands_at 32 preamble front ≡ false → (back ≡ [] → ends_with_id3v1 front ≡ false)
    → find_footer (front ++ back) ≡ None
unfolding find_footer
find_none front back bare h g = rw (append-nil, h, g refl, and-false)
find_none front back (id3 l t a) h g =
    rw (stands-in 32 preamble front back (omega arith), a, stands-before 32 128 preamble front back (omega arith) l, h)

-- the numbers of the footer that stands at f
record Numbers (s : List ℕ) (f z n flags : ℕ) : Type 0 where
  version-is : version_at s f ≡ 2000
  size_is : size_at s f ≡ z
  count-is : count_at s f ≡ n
  flags-are : read_u32 s (f + 20) ≡ flags

-- read back
read-foot : (pre back : List ℕ) (z n f : ℕ) → z < 4294967296 → n < 4294967296 → f < 4294967296
    → Numbers (pre ++ (block_bytes z n f ++ back)) (length pre) z n f
unfolding block_bytes
read-foot pre back z n f hz hn hf =
    let e : List ℕ = block_bytes z n f ++ back in
    let a : read_u32 e 12 ≡ z = omega arith in
    let b : read_u32 e 16 ≡ n = omega arith in
    let c : read_u32 e 20 ≡ f = omega arith in
    record { version-is = at-seam pre e 8; size_is = at-seam pre e 12 ∙ a; count-is = at-seam pre e 16 ∙ b; flags-are = at-seam pre e 20 ∙ c }

-- ---- the file of a book with items, in three parts: what precedes the footer, the footer, the back

abbrev pub size : List Item → ℕ
size ts = length (area_bytes ts) + 32

module _ (front back : List ℕ) (ts : List Item) where
  pre : List ℕ
  pre = front ++ (block_bytes (size ts) (length ts) header_flags ++ area_bytes ts)

  file : List ℕ
  file = front ++ (tag_bytes ts ++ back)

  parts : file ≡ pre ++ (block_bytes (size ts) (length ts) footer_flags ++ back)
  unfolding tag_bytes pre file
  parts = simp append_assoc

  length-pre : length pre ≡ length front + size ts
  unfolding pre
  length-pre = simp (length-append, length-block) (omega arith)

  length-file : length file ≡ length front + size ts + 32 + length back
  length-file = rw (parts, length-append, length-append, length-block, length-pre) (omega arith)

  found_at : Back back → find_footer file ≡ Some (length front + size ts)
  found_at b = rw (parts, ← length-pre) (find-tag pre back (size ts) (length ts) footer_flags b)

  numbers : size ts < 4294967296 → length ts < 4294967296 → Numbers file (length front + size ts) (size ts) (length ts) footer_flags
  numbers hz hn = rw (parts, ← length-pre) (read-foot pre back (size ts) (length ts) footer_flags hz hn (omega arith))

  -- bit 31 is set, so the tag starts 32 bytes before its items
  start-at : size ts < 4294967296 → length ts < 4294967296 → tag_start file (length front + size ts) ≡ Some (length front)
  start-at hz hn =
      let n = numbers hz hn in
      let f = length front + size ts in
      start-there file f (omega (arith, length-file))
      ∙ rw (n.size_is, n.flags-are) (start-headed f (size ts) footer_flags (omega arith) (omega arith) (omega arith) ∙ ap Some (omega arith))

  front-is : take (length front) file ≡ front
  unfolding file
  front-is = take-append_seam front (tag_bytes ts ++ back)

  back_is : drop (length front + size ts + 32) file ≡ back
  back_is =
      let f : List ℕ = block_bytes (size ts) (length ts) footer_flags in
      rw (parts, ← append_assoc pre f back) (drop_at (pre ++ f) back (length front + size ts + 32) (simp (length-append, length-block, length-pre)))

  area-is : size_at file (length front + size ts) ≡ size ts → area_at file (length front + size ts) ≡ area_bytes ts
  unfolding tag_bytes file area_at
  area-is z =
      let h : List ℕ = block_bytes (size ts) (length ts) header_flags in
      let f : List ℕ = block_bytes (size ts) (length ts) footer_flags in
      let p : file ≡ (front ++ h) ++ (area_bytes ts ++ (f ++ back)) = simp append_assoc in
      rw (z, p, drop_at (front ++ h) (area_bytes ts ++ (f ++ back)) (length front + size ts + 32 - size ts) (simp (length-append, length-block) (omega arith)))
      (take_at (area_bytes ts) (f ++ back) (size ts - 32) (omega arith))

  -- the header that the writer puts there
  header-at : size ts < 4294967296 → length ts < 4294967296 → header_at file (length front + size ts) (length front) ≡ true
  unfolding header_at tag_bytes file
  header-at hz hn =
      let h : List ℕ = block_bytes (size ts) (length ts) header_flags in
      let r : List ℕ = area_bytes ts ++ (block_bytes (size ts) (length ts) footer_flags ++ back) in
      let p : file ≡ front ++ (h ++ r) = simp append_assoc in
      let n = numbers hz hn in
      let m : Numbers file (length front) (size ts) (length ts) header_flags = rw p (read-foot front r (size ts) (length ts) header_flags hz hn (omega arith)) in
      let q : starts_with preamble (drop (length front) file) ≡ true = rw (p, drop-append_seam) (unfold block_bytes starts_with in refl) in
      rw (q, m.version-is, m.size_is, m.count-is, m.flags-are, n.size_is, n.count-is, eq-eqb (size ts) (size ts) refl, eq-eqb (length ts) (length ts) refl)

-- where the footer of a book's file stands
abbrev pub footer_of : List ℕ → List Item → Option ℕ
footer_of front [] = None
footer_of front (t ∷ ts) = Some (length front + size (t ∷ ts))

pub law-find : (front : List ℕ) (ts : List Item) (back : List ℕ) → Sound front ts back → find_footer (file_of front ts back) ≡ footer_of front ts
unfolding file_of serialize file
law-find front [] back s = find_none front back s.behind s.no-footer s.no-id3
law-find front (t ∷ ts) back s = found_at front back (t ∷ ts) s.behind

-- ---- the split

-- what follows the tag stays where it is; without it, no ID3v1 block moves
move-back : (front back : List ℕ) → Back back → (back ≡ [] → ends_with_id3v1 front ≡ false) → moved front back ≡ record { front = front; back = back }
unfolding moved
move-back front back bare g = rw (g refl)
move-back front back (id3 {b = []} l t a) g = rw (g refl)
move-back front back (id3 {b = x ∷ xs} l t a) g = refl

split-tag : (front back : List ℕ) (ts : List Item) → Back back → (back ≡ [] → ends_with_id3v1 front ≡ false) → Good ts
    → split (front ++ (tag_bytes ts ++ back)) ≡ record { front = front; back = back }
unfolding split file
split-tag front back ts b g ok =
    let hz : size ts < 4294967296 = omega (arith, ok.small) in
    let hn : length ts < 4294967296 = omega (arith, ok.few) in
    rw (found_at front back ts b, start-at front back ts hz hn, front-is front back ts, back_is front back ts) (move-back front back b g)

-- without a tag, the ID3v1 block that ends the file moves behind the tag's place
move-whole : (front back : List ℕ) → Back back → (back ≡ [] → ends_with_id3v1 front ≡ false) → moved (front ++ back) [] ≡ record { front = front; back = back }
unfolding moved
move-whole front back bare g = rw (append-nil, g refl)
move-whole front back (id3 {b} l t a) g =
    let n : length (front ++ b) - 128 ≡ length front = rw length-append (omega arith) in
    rw (stands-in 128 id3v1_mark front b (omega arith), t, n, take-append_seam, drop-append_seam)

pub law-split : (front : List ℕ) (ts : List Item) (back : List ℕ) → Sound front ts back → split (file_of front ts back) ≡ record { front = front; back = back }
unfolding split file_of serialize
law-split front [] back s = rw (find_none front back s.behind s.no-footer s.no-id3) (move-whole front back s.behind s.no-id3)
law-split front (t ∷ ts) back s = split-tag front back (t ∷ ts) s.behind s.no-id3 s.good

-- another tag in the place of the book's
pub law-replaced : (front : List ℕ) (ts : List Item) (back : List ℕ) → Sound front ts back → (new : List Item)
    → replaced (file_of front ts back) new ≡ file_of front new back
unfolding replaced
law-replaced front ts back s new = rw (law-split front ts back s)

-- ---- the gate

gate-tag : (front back : List ℕ) (ts : List Item) → Back back → Good ts → gate_items (front ++ (tag_bytes ts ++ back)) ≡ Some ts
unfolding gate_items fit file
gate-tag front back ts b ok =
    let hz : size ts < 4294967296 = omega (arith, ok.small) in
    let hn : length ts < 4294967296 = omega (arith, ok.few) in
    let n = numbers front back ts hz hn in
    rw (
      found_at front back ts b,
      n.version-is,
      start-at front back ts hz hn,
      area-is front back ts n.size_is,
      n.size_is,
      n.count-is,
      le-leb 32 (size ts) (omega arith),
      le-leb (length ts) count_limit ok.few,
      le-leb (size ts) 32800 (omega (arith, ok.small)),
      n.flags-are,
      header-at front back ts hz hn,
      parse-area ts ok.sane (omega (arith, ok.small)),
      ok.valid,
    )

pub law-gate : (front : List ℕ) (ts : List Item) (back : List ℕ) → Sound front ts back → gate_items (file_of front ts back) ≡ Some ts
unfolding gate_items file_of serialize
law-gate front [] back s = rw (find_none front back s.behind s.no-footer s.no-id3)
law-gate front (t ∷ ts) back s = gate-tag front back (t ∷ ts) s.behind s.good

-- what a footer says with its flag bit 31: the tag starts in the file, and its header stands there
pub record Headed (s : List ℕ) (f : ℕ) : Type 0 where
  pub bit : has_header (read_u32 s (f + 20)) ≡ true
  pub start : ℕ
  pub starts : tag_start s f ≡ Some start
  pub header : header_at s f start ≡ true

-- the footer of a sound book's file says so, and the writer put the header there
headed-tag : (front back : List ℕ) (ts : List Item) → Good ts → Headed (front ++ (tag_bytes ts ++ back)) (length front + size ts)
unfolding file
headed-tag front back ts ok =
    let hz : size ts < 4294967296 = omega (arith, ok.small) in
    let hn : length ts < 4294967296 = omega (arith, ok.few) in
    let n = numbers front back ts hz hn in
    record { bit = rw n.flags-are; start = length front; starts = start-at front back ts hz hn; header = header-at front back ts hz hn }

pub law-header : (front : List ℕ) (ts : List Item) (back : List ℕ) (f : ℕ) → Sound front ts back → find_footer (file_of front ts back) ≡ Some f → Headed (file_of front ts back) f
unfolding file_of serialize
law-header front [] back f s e =
    let x : None ≡ Some f = sym (find_none front back s.behind s.no-footer s.no-id3) ∙ e in
    absurd (let z : ◌≡◌ {A = ℕ} 0 1 = cc in omega arith)
law-header front (t ∷ ts) back f s e =
    let x : Some (length front + size (t ∷ ts)) ≡ Some f = sym (law-find front (t ∷ ts) back s) ∙ e in
    let y : length front + size (t ∷ ts) ≡ f = cc in
    rw (← y) (headed-tag front back (t ∷ ts) s.good)

pub law-passes : (front : List ℕ) (ts : List Item) (back : List ℕ) → Sound front ts back → passes_gate (file_of front ts back) ≡ true
unfolding passes_gate
law-passes front ts back s = rw (law-gate front ts back s)

pub law-items : (front : List ℕ) (ts : List Item) (back : List ℕ) → Sound front ts back → items_of (file_of front ts back) ≡ ts
unfolding items_of
law-items front ts back s = rw (law-gate front ts back s)

-- ---- reading

-- a value that the gate passes is read as it was written
value_read : (flags : ℕ) (value : List ℕ) → (is_binary flags || valid value) ≡ true → read_value flags value ≡ value
value_read flags value v = go (is_binary flags) refl v
  where
    go : (b : Bool) → is_binary flags ≡ b → (b || valid value) ≡ true → read_value flags value ≡ value
    go true e v = binary-value flags value e
    go false e v = text-value flags value e ∙ lossy-valid value v

-- items that the gate passes are read as they were written
pub read-area : (ts : List Item) → AllSane ts → all_valid ts ≡ true → length (area_bytes ts) < 4294967296 → read_items (length ts) (area_bytes ts) ≡ ts
unfolding read_items area_bytes item_valid all_valid
read-area [] ok v h = refl
read-area (t ∷ ts) ok v h =
    let l : length (item_bytes t) + length (area_bytes ts) < 4294967296 = rw length-append at h in
    let (a, b) = both (item_valid t) (all_valid ts) v in
    let (_, e) = both (flags_fit t.flags) _ a in
    let (c, d) = both (valid t.key) _ e in
    rw (
      head-item t (area_bytes ts) ok.0 (omega (arith, length-item t)),
      lossy-valid t.key c,
      value_read t.flags t.value d,
      read-area ts ok.1 b (omega arith),
    )

-- what reading answers: no tag for no items, since the serializer writes nothing for them
abbrev pub as_read : List Item → Option (List Item)
as_read [] = None
as_read (t ∷ ts) = Some (t ∷ ts)

read-tag : (front back : List ℕ) (ts : List Item) → Back back → Good ts → read_tag (front ++ (tag_bytes ts ++ back)) ≡ Some ts
unfolding read_tag file
read-tag front back ts b ok =
    let hz : size ts < 4294967296 = omega (arith, ok.small) in
    let hn : length ts < 4294967296 = omega (arith, ok.few) in
    let n = numbers front back ts hz hn in
    rw (
      found_at front back ts b,
      n.version-is,
      area-is front back ts n.size_is,
      n.size_is,
      n.count-is,
      le-leb (size ts) (length front + size ts + 32) (omega arith),
      read-area ts ok.sane ok.valid (omega (arith, ok.small)),
    )

pub law-read : (front : List ℕ) (ts : List Item) (back : List ℕ) → Sound front ts back → read_tag (file_of front ts back) ≡ as_read ts
unfolding read_tag file_of serialize
law-read front [] back s = rw (find_none front back s.behind s.no-footer s.no-id3)
law-read front (t ∷ ts) back s = read-tag front back (t ∷ ts) s.behind s.good
