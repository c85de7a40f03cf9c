-- Demand 3: a list of calls, and the undo after it.
use Prim.Native.Nat.{ℕ, ◌≤◌, ◌<◌}
use native.Mathlib.Omega.{arith}
use mathlib.Core.Path.{◌≡◌, refl, sym, ap, ◌∙◌, subst}
use mathlib.Core.Logic.{◌↔◌, ◌⊎◌, inl, inr}
use mathlib.Core.Bool.{Bool, true, false, true≢false}
use Rattle.std.specs.Prelude.{None, Some}
use mathlib.Core.List.{List, [], ◌∷◌, ◌++◌, map}
use lib.ListN.{length, get_or, length-map}
use Rattle.replies.specs.Limits.{file_limit}
use Rattle.replies.specs.Refusal.{refusal_of, Plan, no, yes}
use Rattle.replies.proofs.Order.{done}
use Rattle.frame.specs.declared.GainMode.{GainMode}
use Rattle.frame.specs.declared.GainMode.TheVariants.{Wrapping}
use Rattle.frame.specs.Gain.{adjust}
use Rattle.frame.specs.Steps.{InRange, Kept}
use Rattle.frame.proofs.GainLists.{back_all, back_all-is, each_back, length-back_all, get_d_map}
use Rattle.tally.specs.Tally.{NoneLost, LostTells}
use Rattle.tally.proofs.Lost.{lost-tells}
use Rattle.keys.specs.Keys.{same_key, is_mp3gain_key, undo_key}
use Rattle.items.specs.Items.{Item, count_of}
use Rattle.items.proofs.ItemLaws.{count-fewer}
use Rattle.ape.specs.Tag.{file_of}
use Rattle.calls.specs.Gate.{items_of}
use Rattle.calls.specs.Calls.{Level, Levelled, adjusted, stored_undo, levelled_items, is_there, others, level_tests, level_gives, level_plan, undo_plan}
use Rattle.book.specs.Book.{Book, book_of, book_file}
use Rattle.reversal.specs.Run.{Edit, key_of, edit_items, edit_plan, feed, Call, level, edit, State, Side, on_left, on_right, step_on, gains_on, level_to, edit_to, outcome, is_yes, after, accepts, next, run, level_if, accepted_levels, accepted_edits, edits_alone, fed, book_after, WrapsIf, LandsIf, Wrapped, Landed}
use Rattle.book.proofs.Sound.{Sound}
use Rattle.book.proofs.Reading.{law-items}
use Rattle.book.proofs.Settled.{settled-sound, settled-book}
use Rattle.reversal.specs.Demand.{Apart, undo_after, undone_on, Given, Restored, Demand3}
use Rattle.calls.proofs.Items.{none_dropped, none-got, by-undo, level-others, level-once}
use Rattle.reversal.proofs.Levels.{undo_in, booked_by, Fair, fair, Desk, gains, level_desk, undone_by, steps, AllOf, Chain, perform, Reversed, performed}
use Rattle.reversal.proofs.Calls.{sound-without, EditPasses, edit-passes, edit-accepted, edit-sound, edit-others, edit-stored, edit-once, edit-fewer, LevelPasses, gains_to, level-stored, level-passes, level-gives, level-sound, Undone, undo-gives}

-- the state's file is the book's file with more items, all of them of the eight keys
pub record Holds (b : Book) (s : State) : Type 0 where
  pub items : List Item
  pub sound : Sound b.front items b.back
  pub file : s.file ≡ file_of b.front items b.back
  pub rest : others items ≡ b.items
  pub once : count_of (same_key undo_key) items ≤ 1

-- what level calls read and change
unfoldable pub desk : State → Desk
desk s = record { stored = undo_in (items_of s.file); lefts = s.left; rights = s.right }

-- what undo needs beside the stored item
pub record Ready (s : State) : Type 0 where
  pub small : length s.file ≤ file_limit
  pub some_left : is_there s.left ≡ true

-- from b and s, a list with the accepted calls ls and es leads to b' and s'
pub record Along (b : Book) (s : State) (b' : Book) (s' : State) (ls : List Level) (es : List Edit) : Type 0 where
  pub holds : Holds b' s'
  pub desk-is : desk s' ≡ perform (desk s) ls
  pub chain : Chain (desk s).stored ls
  pub keeps : Ready s → Ready s'
  pub reaches : ¬ (ls ≡ []) → Ready s'
  pub alone : (a : State) → a.file ≡ book_file b → (accepted_edits a (map edit es) ≡ es) × ((run a (map edit es)).file ≡ book_file b')

-- ---- one call

refused-stays : (s : State) (c : Call) → accepts s c ≡ false → next s c ≡ s
unfolding next accepts
refused-stays s c e = go (outcome s c) e
  where
    go : (p : Plan State) → is_yes p ≡ false → after s p ≡ s
    go (no r) e = refl
    go (yes t) e = absurd (true≢false e)

edit-on : (s : State) (e : Edit) (f : List ℕ) → edit_plan s.file e ≡ yes f
    → (accepts s (edit e) ≡ true) × (next s (edit e) ≡ record { file = f; left = s.left; right = s.right })
unfolding accepts outcome next
edit-on s e f q = (rw q, rw q)

edit-yes : (s : State) (e : Edit) → accepts s (edit e) ≡ true → (w : List ℕ) × (edit_plan s.file e ≡ yes w)
unfolding accepts outcome
edit-yes s e t = go (edit_plan s.file e) refl t
  where
    go : (p : Plan (List ℕ)) → edit_plan s.file e ≡ p → is_yes (edit_to s p) ≡ true → (w : List ℕ) × (edit_plan s.file e ≡ yes w)
    go (no r) q t = absurd (true≢false (sym t))
    go (yes w) q t = (w, q)

level-on : (s : State) (l : Level) (room : ℕ) (o : Levelled) → level_plan s.file s.left s.right l room ≡ yes o
    → next s (level l room) ≡ record { file = o.out; left = o.left; right = o.right }
unfolding outcome next
level-on s l room o q = rw q

level-yes : (s : State) (l : Level) (room : ℕ) → accepts s (level l room) ≡ true → (o : Levelled) × (level_plan s.file s.left s.right l room ≡ yes o)
unfolding accepts outcome
level-yes s l room t = go (level_plan s.file s.left s.right l room) refl t
  where
    go : (p : Plan Levelled) → level_plan s.file s.left s.right l room ≡ p → is_yes (level_to p) ≡ true
        → (o : Levelled) × (level_plan s.file s.left s.right l room ≡ yes o)
    go (no r) q t = absurd (true≢false (sym t))
    go (yes o) q t = (o, q)

holds-items : (b : Book) (s : State) (h : Holds b s) → items_of s.file ≡ h.items
holds-items b s h = ap items_of h.file ∙ law-items b.front h.items b.back h.sound

stored_at : (b : Book) (s : State) (h : Holds b s) → (desk s).stored ≡ undo_in h.items
unfolding desk
stored_at b s h = ap undo_in (holds-items b s h)

desk-eq : (s s' : State) → undo_in (items_of s.file) ≡ undo_in (items_of s'.file) → s.left ≡ s'.left → s.right ≡ s'.right → desk s ≡ desk s'
unfolding desk
desk-eq s s' p q r = λ i. record { stored = p i; lefts = q i; rights = r i }

still-there : (f : ℕ → ℕ) (gs : List ℕ) → is_there gs ≡ true → is_there (map f gs) ≡ true
still-there f [] e = e
still-there f (g ∷ gs) e = refl

module _ (b : Book) (s : State) (h : Holds b s) where
  -- an accepted edit
  module _ (e : Edit) (n : is_mp3gain_key (key_of e) ≡ false) (t : accepts s (edit e) ≡ true) where
    edit-ok : EditPasses b.front h.items b.back e
    edit-ok = let (w, q) = edit-yes s e t in edit-passes b.front b.back h.items h.sound e w (ap (λ f. edit_plan f e) (sym h.file) ∙ q)

    edit-next : next s (edit e) ≡ record { file = file_of b.front (edit_items e h.items) b.back; left = s.left; right = s.right }
    edit-next = (edit-on s e (file_of b.front (edit_items e h.items) b.back) (rw h.file (edit-accepted b.front b.back h.items h.sound e edit-ok))).1

    edit-holds : Holds (feed b e true) (next s (edit e))
    unfolding feed
    edit-holds = record {
      items = edit_items e h.items;
      sound = edit-sound b.front b.back h.items h.sound e edit-ok;
      file = rw edit-next;
      rest = rw (edit-others e n h.items, h.rest);
      once = edit-once e n h.items h.once;
    }

    edit-desk : desk (next s (edit e)) ≡ desk s
    unfolding edit-holds
    edit-desk = desk-eq (next s (edit e)) s
        (rw (holds-items (feed b e true) (next s (edit e)) edit-holds, holds-items b s h) (edit-stored e n h.items))
        (rw edit-next)
        (rw edit-next)

    edit-ready : Ready s → Ready (next s (edit e))
    edit-ready r = rw edit-next (record { small = edit-ok.size; some_left = r.some_left })

    -- the same edit alone
    edit-alone : (a : State) → a.file ≡ book_file b → (accepts a (edit e) ≡ true) × ((next a (edit e)).file ≡ book_file (feed b e true))
    unfolding book_file feed
    edit-alone a q =
        let rest : List Item = others h.items in
        let at : a.file ≡ file_of b.front rest b.back = rw h.rest q in
        let sound : Sound b.front rest b.back = unfold others in sound-without b.front b.back h.items h.sound is_mp3gain_key in
        let ok : EditPasses b.front rest b.back e = edit-fewer b.front b.back h.items e n edit-ok in
        let (x, y) = edit-on a e (file_of b.front (edit_items e rest) b.back) (rw at (edit-accepted b.front b.back rest sound e ok)) in
        (x, ap (λ (z : State). z.file) y ∙ rw h.rest)

  -- an accepted level call
  module _ (l : Level) (room : ℕ) (t : accepts s (level l room) ≡ true) where
    new : List Item
    new = levelled_items l h.items (gains_to l s.left s.right)

    level-ok : LevelPasses b.front h.items new b.back s.left l
    unfolding new
    level-ok =
        let (o, q) = level-yes s l room t in
        level-passes b.front b.back h.items h.sound s.left s.right l room o (ap (λ f. level_plan f s.left s.right l room) (sym h.file) ∙ q)

    level-next : next s (level l room)
        ≡ record { file = file_of b.front new b.back; left = adjusted l.mode l.left s.left; right = adjusted l.mode l.right s.right }
    unfolding new
    level-next =
        let (o, q) = level-yes s l room t in
        level-on s l room o q
        ∙ ap (λ (o : Levelled). record { file = o.out; left = o.left; right = o.right })
        (level-gives b.front b.back h.items h.sound s.left s.right l room o (ap (λ f. level_plan f s.left s.right l room) (sym h.file) ∙ q))

    level_holds : Holds b (next s (level l room))
    unfolding new
    level_holds = record {
      items = new;
      sound = level-sound b.front b.back h.items h.sound s.left s.right l room level-ok;
      file = rw level-next;
      rest = level-others l h.items (gains_to l s.left s.right) ∙ h.rest;
      once = level-once l h.items (gains_to l s.left s.right) h.once;
    }

    level-desk : desk (next s (level l room)) ≡ level_desk (desk s) l
    unfolding desk level_desk new level_holds
    level-desk =
        let p : undo_in (items_of (next s (level l room)).file) ≡ Some (booked_by (undo_in (items_of s.file)) l)
        = ap undo_in (holds-items b (next s (level l room)) level_holds)
        ∙ level-stored l h.items (gains_to l s.left s.right) level-ok.numbers
        ∙ ap (λ (ts : List Item). Some (booked_by (undo_in ts) l)) (sym (holds-items b s h)) in
        let q : (next s (level l room)).left ≡ adjusted l.mode l.left s.left = rw level-next in
        let r : (next s (level l room)).right ≡ adjusted l.mode l.right s.right = rw level-next in
        λ i. record { stored = p i; lefts = q i; rights = r i }

    level-fair : Fair (desk s).stored l
    level-fair = rw (stored_at b s h) (fair l h.items level-ok.agreed level-ok.numbers)

    level-ready : Ready (next s (level l room))
    level-ready = rw level-next (record { small = level-ok.size; some_left = still-there (adjust l.mode l.left) s.left level-ok.some_left })

-- ---- a list of calls

along : (cs : List Call) (b : Book) (s : State) → Apart cs → Holds b s → Along b s (fed b s cs) (run s cs) (accepted_levels s cs) (accepted_edits s cs)
unfolding fed run accepted_levels accepted_edits Apart perform level_desk feed
along [] b s p h = record { holds = h; desk-is = refl; chain = tt; keeps = λ r. r; reaches = λ n. absurd (n refl); alone = λ a e. (refl, e) }
along (level l room ∷ cs) b s p h = go (accepts s (level l room)) refl (λ s'. along cs b s' p)
  where
    c : Call
    c = level l room

    go : (t : Bool) → accepts s c ≡ t
        → ((s' : State) → Holds b s' → Along b s' (fed b s' cs) (run s' cs) (accepted_levels s' cs) (accepted_edits s' cs))
        → Along b s (fed b s (c ∷ cs)) (run s (c ∷ cs)) (accepted_levels s (c ∷ cs)) (accepted_edits s (c ∷ cs))
    go true t ih =
        let a = ih (next s c) (level_holds b s h l room t) in
        let d : desk (next s c) ≡ level_desk (desk s) l = level-desk b s h l room t in
        let r : Ready (next s c) = level-ready b s h l room t in
        rw t (record {
          holds = a.holds;
          desk-is = a.desk-is ∙ ap (λ x. perform x (accepted_levels (next s c) cs)) d;
          chain = (level-fair b s h l room t, subst (λ (x : Desk). Chain x.stored (accepted_levels (next s c) cs)) d a.chain);
          keeps = λ _. a.keeps r;
          reaches = λ _. a.keeps r;
          alone = a.alone;
        })
    go false t ih = rw (t, refused-stays s c t) (ih s h)
along (edit e ∷ cs) b s (n, p) h = go (accepts s (edit e)) refl (λ b' s'. along cs b' s' p)
  where
    c : Call
    c = edit e

    go : (t : Bool) → accepts s c ≡ t
        → ((b' : Book) (s' : State) → Holds b' s' → Along b' s' (fed b' s' cs) (run s' cs) (accepted_levels s' cs) (accepted_edits s' cs))
        → Along b s (fed b s (c ∷ cs)) (run s (c ∷ cs)) (accepted_levels s (c ∷ cs)) (accepted_edits s (c ∷ cs))
    go true t ih =
        let a = ih (feed b e true) (next s c) (edit-holds b s h e n t) in
        rw t (record {
          holds = a.holds;
          desk-is = a.desk-is ∙ ap (λ x. perform x (accepted_levels (next s c) cs)) (edit-desk b s h e n t);
          chain = subst (λ (x : Desk). Chain x.stored (accepted_levels (next s c) cs)) (edit-desk b s h e n t) a.chain;
          keeps = λ r. a.keeps (edit-ready b s h e n t r);
          reaches = a.reaches;
          alone = λ x q. let (y, z) = edit-alone b s h e n t x q in let (i, j) = a.alone (next x c) z in (rw y (ap (λ es. e ∷ es) i), j);
        })
    go false t ih = rw (t, refused-stays s c t) (ih b s h)

-- ---- the gains

-- whatever the file
gains-accepted : (side : Side) (s : State) (l : Level) (room : ℕ) → accepts s (level l room) ≡ true
    → gains_on side (next s (level l room)) ≡ map (adjust l.mode (step_on side l)) (gains_on side s)
unfolding level_plan
gains-accepted side s l room t = go side
  where
    given : (o : Levelled) × (level_plan s.file s.left s.right l room ≡ yes o)
    given = level-yes s l room t

    same : level_gives s.file s.left s.right l ≡ given.0
    same = (done (refusal_of (level_tests s.file s.left s.right l room)) (level_gives s.file s.left s.right l) given.0 given.1).1

    there : next s (level l room) ≡ record { file = given.0.out; left = given.0.left; right = given.0.right }
    there = level-on s l room given.0 given.1

    go : (side : Side) → gains_on side (next s (level l room)) ≡ map (adjust l.mode (step_on side l)) (gains_on side s)
    go on_left = ap (λ (x : State). x.left) there ∙ ap (λ (o : Levelled). o.left) (sym same)
    go on_right = ap (λ (x : State). x.right) there ∙ ap (λ (o : Levelled). o.right) (sym same)

gains-edited : (side : Side) (s : State) (e : Edit) → gains_on side (next s (edit e)) ≡ gains_on side s
unfolding next outcome
gains-edited side s e = go (edit_plan s.file e) side
  where
    go : (p : Plan (List ℕ)) (side : Side) → gains_on side (after s (edit_to s p)) ≡ gains_on side s
    go (no r) side = refl
    go (yes w) on_left = refl
    go (yes w) on_right = refl

-- a gain after a call of mode m
abbrev gain_if : GainMode → Bool → Call → Side → ℕ → ℕ
gain_if m true (level l room) side g = adjust m (step_on side l) g
gain_if m true (edit e) side g = g
gain_if m false c side g = g

gain-edit : (m : GainMode) (t : Bool) (e : Edit) (side : Side) (g : ℕ) → gain_if m t (edit e) side g ≡ g
gain-edit m true e side g = refl
gain-edit m false e side g = refl

-- where the call stands in front of accepted calls that all have the mode m
gain-next : (m : GainMode) (side : Side) (i : ℕ) (s : State) (c : Call) (ls : List Level) → AllOf m (level_if (accepts s c) c ++ ls) → i < length (gains_on side s)
    → (get_or (gains_on side (next s c)) i 0 ≡ gain_if m (accepts s c) c side (get_or (gains_on side s) i 0)) × (i < length (gains_on side (next s c)))
unfolding AllOf
gain-next m side i s (level l room) ls a h = go (accepts s (level l room)) refl a
  where
    go : (t : Bool) → accepts s (level l room) ≡ t → AllOf m (level_if t (level l room) ++ ls)
        → (get_or (gains_on side (next s (level l room))) i 0 ≡ gain_if m (accepts s (level l room)) (level l room) side (get_or (gains_on side s) i 0))
        × (i < length (gains_on side (next s (level l room))))
    go true t (e, _) =
        rw (t, gains-accepted side s l room t) (get_d_map (adjust l.mode (step_on side l)) (gains_on side s) i h ∙ rw e, rw length-map h)
    go false t a = rw (t, refused-stays s (level l room) t) (refl, h)
gain-next m side i s (edit e) ls a h =
    (ap (λ gs. get_or gs i 0) (gains-edited side s e) ∙ sym (gain-edit m (accepts s (edit e)) e side (get_or (gains_on side s) i 0)), rw (gains-edited side s e) h)

-- wrapped and landed, said of the accepted calls
wraps-one : (t : Bool) (c : Call) (ls : List Level) (W : Type 0) → W ↔ AllOf Wrapping ls → (WrapsIf t c × W) ↔ AllOf Wrapping (level_if t c ++ ls)
unfolding AllOf
wraps-one true (level l room) ls W ih = (λ (a, b). (a, ih.0 b), λ (a, b). (a, ih.1 b))
wraps-one true (edit e) ls W ih = (λ (a, b). ih.0 b, λ b. (tt, ih.1 b))
wraps-one false c ls W ih = (λ (a, b). ih.0 b, λ b. (tt, ih.1 b))

wrapped-all : (s : State) (cs : List Call) → Wrapped s cs ↔ AllOf Wrapping (accepted_levels s cs)
unfolding Wrapped AllOf accepted_levels
wrapped-all s [] = (λ x. x, λ x. x)
wrapped-all s (c ∷ cs) = wraps-one (accepts s c) c (accepted_levels (next s c) cs) (Wrapped (next s c) cs) (wrapped-all (next s c) cs)

lands-one : (m : GainMode) (side : Side) (g : ℕ) (t : Bool) (c : Call) (ls : List Level) (L : Type 0) → AllOf m (level_if t c ++ ls)
    → (AllOf m ls → L ↔ InRange m (steps side ls) (gain_if m t c side g)) → (LandsIf t c side g × L) ↔ InRange m (steps side (level_if t c ++ ls)) g
unfolding AllOf InRange steps
lands-one m side g true (level l room) ls L (e, a) ih = (λ (x, y). (x, (ih a).0 y), λ (x, y). (x, (ih a).1 y))
lands-one m side g true (edit e) ls L a ih = (λ (x, y). (ih a).0 y, λ y. (tt, (ih a).1 y))
lands-one m side g false c ls L a ih = (λ (x, y). (ih a).0 y, λ y. (tt, (ih a).1 y))

landed-range : (m : GainMode) (side : Side) (i : ℕ) (s : State) (cs : List Call) → AllOf m (accepted_levels s cs) → i < length (gains_on side s)
    → Landed side i s cs ↔ InRange m (steps side (accepted_levels s cs)) (get_or (gains_on side s) i 0)
unfolding Landed InRange accepted_levels steps
landed-range m side i s [] a h = (λ x. x, λ x. x)
landed-range m side i s (c ∷ cs) a h =
    let ls : List Level = accepted_levels (next s c) cs in
    let (q, l) = gain-next m side i s c ls a h in
    lands-one m side (get_or (gains_on side s) i 0) (accepts s c) c ls (Landed side i (next s c) cs) a
    (λ a'. subst (λ (g : ℕ). Landed side i (next s c) cs ↔ InRange m (steps side ls) g) q (landed-range m side i (next s c) cs a' l))

-- ---- the theorem

gains-desk : (side : Side) (s : State) → gains side (desk s) ≡ gains_on side s
unfolding desk
gains-desk on_left s = refl
gains-desk on_right s = refl

head-mode : (m : GainMode) (ls : List Level) → ¬ (ls ≡ []) → AllOf m ls → AllOf Wrapping ls → m ≡ Wrapping
unfolding AllOf
head-mode m [] n a b = absurd (n refl)
head-mode m (l ∷ ls) n (a, _) (b, _) = sym a ∙ b

module _ (s : State) (cs : List Call) (room : ℕ) (given : Given s cs room) where
  first_holds : Holds (book_of s.file) s
  unfolding book_of book_file others
  first_holds = record {
    items = items_of s.file;
    sound = settled-sound s.file given.settled-file;
    file = sym (settled-book s.file given.settled-file);
    rest = none_dropped is_mp3gain_key (items_of s.file) given.none-of-eight;
    once = omega (arith, count-fewer is_mp3gain_key (same_key undo_key) by-undo (items_of s.file), given.none-of-eight);
  }

  first-stored : (desk s).stored ≡ None
  unfolding desk undo_in stored_undo
  first-stored = rw (none-got (items_of s.file) given.none-of-eight)

  ls : List Level
  ls = accepted_levels s cs

  b' : Book
  b' = book_after s cs

  s' : State
  s' = run s cs

  all : Along (book_of s.file) s b' s' ls (accepted_edits s cs)
  unfolding ls b' s' book_after
  all = along cs (book_of s.file) s given.apart first_holds

  back : Reversed (desk s) (perform (desk s) ls) ls
  unfolding ls
  back = performed (desk s) ls first-stored all.chain given.some_level

  kept-is : (side : Side) (i : ℕ) → i < length (gains_on side s)
      → Kept back.mode (steps side ls) (get_or (gains_on side s) i 0) ↔ (Wrapped s cs ⊎ (get_or (gains_on side s) i 0 ≡ 0) ⊎ Landed side i s cs)
  unfolding Kept ls
  kept-is side i h = (to, from)
    where
      g : ℕ
      g = get_or (gains_on side s) i 0

      to : ((back.mode ≡ Wrapping) ⊎ (g ≡ 0) ⊎ InRange back.mode (steps side ls) g) → (Wrapped s cs ⊎ (g ≡ 0) ⊎ Landed side i s cs)
      to (inl e) = inl ((wrapped-all s cs).1 (subst (λ m. AllOf m ls) e back.one-mode))
      to (inr (inl z)) = inr (inl z)
      to (inr (inr r)) = inr (inr ((landed-range back.mode side i s cs back.one-mode h).1 r))

      from : (Wrapped s cs ⊎ (g ≡ 0) ⊎ Landed side i s cs) → ((back.mode ≡ Wrapping) ⊎ (g ≡ 0) ⊎ InRange back.mode (steps side ls) g)
      from (inl e) = inl (head-mode back.mode ls given.some_level back.one-mode ((wrapped-all s cs).0 e))
      from (inr (inl z)) = inr (inl z)
      from (inr (inr r)) = inr (inr ((landed-range back.mode side i s cs back.one-mode h).0 r))

  -- the undo is accepted
  undo-is : Undone b'.front b'.back all.holds.items all.holds.sound s'.left s'.right room back.undo
  unfolding ls s'
  undo-is =
      let here = all.holds in
      let ready = all.reaches given.some_level in
      let stored : undo_in here.items ≡ Some back.undo = sym (stored_at b' s' here) ∙ ap (λ (d : Desk). d.stored) all.desk-is ∙ back.item in
      undo-gives b'.front b'.back here.items here.sound s'.left s'.right room back.undo here.once
      (subst (λ (f : List ℕ). length f ≤ file_limit) here.file ready.small) ready.some_left stored
      (subst (λ (f : List ℕ). length f ≤ room) here.file given.long)

  gains-back : (side : Side) → undone_by side back.undo (gains_on side s') ≡ back_all back.mode (steps side ls) (gains_on side s)
  gains-back side =
      let e : gains_on side s' ≡ gains side (perform (desk s) ls) = sym (gains-desk side s') ∙ ap (gains side) all.desk-is in
      rw (e, ← (gains-desk side s)) (back.gone side)

  side-back : (side : Side) → undone_on side undo-is.result ≡ back_all back.mode (steps side ls) (gains_on side s)
  side-back on_left = undo-is.left_is ∙ gains-back on_left
  side-back on_right = undo-is.right_is ∙ gains-back on_right

  restored : Restored s cs room
  unfolding s' b' ls edits_alone book_file
  restored =
      let alone = all.alone s (sym (settled-book s.file given.settled-file)) in
      record {
        undone = undo-is.result;
        accepted = ap (λ f. undo_plan f s'.left s'.right room) all.holds.file ∙ undo-is.accepted;
        file = undo-is.out-is ∙ ap (λ ts. file_of b'.front ts b'.back) all.holds.rest;
        alone-accepted = alone.0;
        alone-file = alone.1;
        lengths = λ side. ap length (side-back side) ∙ length-back_all back.mode (steps side ls) (gains_on side s);
        gain = λ side i h. rw (side-back side)
            (let e = each_back back.mode (steps side ls) (gains_on side s) i h (given.bytes side i) in
            let f = kept-is side i h in
            (λ x. f.0 (e.0 x), λ x. e.1 (f.1 x)));
      }

  -- the gains of a side after the undo
  lost-side : (side : Side) → (undone_on side restored.undone ≡ gains_on side s) ↔ NoneLost back.mode (steps side ls) (gains_on side s)
  unfolding restored LostTells
  lost-side side = rw (side-back side, back_all-is) (lost-tells back.mode (steps side ls) (gains_on side s) (given.bytes side))

pub demand3 : Demand3
unfolding Demand3
demand3 s cs room given = restored s cs room given

-- the undo brings every gain of a side back exactly when no accepted level call lost one: `lost` of the tally was 0 at each of them
pub lost-at-none : (s : State) (cs : List Call) (room : ℕ) → Given s cs room → (o : Levelled) → undo_after s cs room ≡ yes o
    → (m : GainMode) × AllOf m (accepted_levels s cs)
    × ((side : Side) → (undone_on side o ≡ gains_on side s) ↔ NoneLost m (steps side (accepted_levels s cs)) (gains_on side s))
unfolding ls
lost-at-none s cs room given o e =
    let r = restored s cs room given in
    let x : yes r.undone ≡ yes o = sym r.accepted ∙ e in
    let same : r.undone ≡ o = cc in
    ((back s cs room given).mode, (back s cs room given).one-mode, λ side. rw (← same) (lost-side s cs room given side))
