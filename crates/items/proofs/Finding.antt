-- What get answers, by the tests that led there.
use Prim.Native.Nat.{ℕ, ◌+◌, ◌≤◌, ◌<◌}
use native.Mathlib.Omega.{arith}
use mathlib.Core.Path.{◌≡◌, refl, sym, ap, ◌∙◌}
use mathlib.Core.Bool.{Bool, true, false}
use Rattle.std.specs.Prelude.{Option, None, Some, option_map, Result, Ok, Err}
use mathlib.Core.List.{List}
use lib.ListN.{length}
use lib.Dec.{ltb}
use Rattle.lists.specs.Bytes.{Small}
use Rattle.lists.specs.Choice.{is_some}
use Rattle.replies.specs.declared.Refusal.{Refusal}
use Rattle.replies.specs.declared.Refusal.TheVariants.{BadKey}
use Rattle.keys.specs.Keys.{is_key}
use Rattle.items.specs.Items.{parse, items_in, get_item, is_repeated}
use Rattle.items.specs.Answers.{locate_in, locate_from, locate_of, place_by, count_by, found_at, find_of, value_of, found_repeated}
use Rattle.items.specs.declared.Place.{Place}
use Rattle.items.specs.declared.FirstMatch.{FirstMatch}
use Rattle.items.specs.declared.Found.{Found}
use Rattle.items.proofs.Area.{area-length}
use Rattle.items.proofs.Located.{count_from, located, unlocated, unlocated-from, absent-count, Behind}
use Rattle.items.proofs.Places.{split, end-within, find-get}

abbrev valued : Option Found → Result (Option Found) Refusal
valued o = Ok o

module _ (s : List ℕ) (n : ℕ) (key : List ℕ) where
  pub find-12 : {r : Refusal} → Err r ≡ locate_of s n key → Err r ≡ find_of s n key
  unfolding find_of
  find-12 {r} e = let u = unlocated s n key r e in rw u.0 (ap Err u.1)

  -- a well-formed area, by its answer
  module _ (o : Option Place) (e : Ok o ≡ locate_of s n key) where
    pub find-3 : is_key key ≡ false → Err BadKey ≡ find_of s n key
    unfolding find_of
    find-3 k = rw ((located s n key o e).some, k)

    pub find-is : {repeated : Bool} → is_key key ≡ true → repeated ≡ is_repeated key (items_in n s) → Ok (found_at o repeated) ≡ find_of s n key
    unfolding find_of
    find-is {repeated} k a =
        let l = located s n key o e in
        rw (l.some, k) (ap (λ o. valued (found_at o repeated)) (sym l.is) ∙ ap (λ r. valued (found_at (locate_in key 0 (items_in n s)) r)) a)

  -- where there is none, none is a later one
  pub find_none : Ok None ≡ locate_of s n key → is_key key ≡ true → Ok None ≡ find_of s n key
  unfolding find_of
  find_none e k = let l = located s n key None e in rw (l.some, k) (rw l.is)

-- where a match stands in the area
pub record There (s : List ℕ) (p : Place) : Type 0 where
  pub key-end : p.start + 8 ≤ p.key_end
  pub end : p.key_end < p.end
  pub within : p.end ≤ length s

pub there : (s : List ℕ) (n : ℕ) (key : List ℕ) (p : Place) → Ok (Some p) ≡ locate_of s n key → There s p
there s n key p q =
    let l = located s n key (Some p) q in
    let x = split key 0 (items_in n s) p l.is in
    let w = area-length n s l.some in
    record { key-end = omega (arith, x.key-end); end = omega (arith, x.key-end, x.end); within = omega (arith, w, end-within x) }

-- what the first match says of an area: the items left behind it are still to be tested
pub record First (s : List ℕ) (n : ℕ) (key : List ℕ) (m : FirstMatch) : Type 0 where
  pub place : locate_of s n key ≡ place_by s (Ok (Some m))
  pub matches : count_from s key 0 n ≡ count_by s key (Ok (Some m))

module _ {s : List ℕ} {n : ℕ} {key : List ℕ} {m : FirstMatch} (f : First s n key m) where
  -- they are not well formed
  pub find-malformed : {r : Refusal} → Err r ≡ locate_from s key m.place.end m.left → Err r ≡ find_of s n key
  find-malformed {r} q =
      let u = unlocated-from s key m.place.end m.left r q in
      find-12 s n key (ap Err u.1 ∙ sym (f.place ∙ rw u.0))

  module _ {repeated : Bool} (b : Behind s key m.place.end m.left repeated) where
    -- they are
    pub first-at : Ok (Some m.place) ≡ locate_of s n key
    first-at = sym (f.place ∙ rw b.some)

    pub later : repeated ≡ is_repeated key (items_in n s)
    later =
        let m : count_from s key 0 n ≡ 1 + count_from s key m.place.end m.left = f.matches ∙ rw b.some in
        sym (ap (ltb 1) m ∙ b.more)

-- what find answered, as a value
abbrev pub got : List ℕ → Result (Option Found) Refusal → Option (List ℕ)
got s (Ok o) = option_map (value_of s) o
got s (Err r) = None

-- the part that get hands out is the value of the first match
pub get-is : (s : List ℕ) (n : ℕ) (key : List ℕ) → Small s → is_some (parse n s) ≡ true → is_key key ≡ true → got s (find_of s n key) ≡ get_item key (items_in n s)
unfolding find_of
get-is s n key b w k = rw (w, k) (find-get s n key b w (is_repeated key (items_in n s)))

-- and it says whether a later one matches
pub repeated-is : (s : List ℕ) (n : ℕ) (key : List ℕ) → is_some (parse n s) ≡ true → is_key key ≡ true → found_repeated (find_of s n key) ≡ is_repeated key (items_in n s)
unfolding find_of
repeated-is s n key w k = rw (w, k) (at (locate_in key 0 (items_in n s)) refl)
  where
    at : (o : Option Place) → locate_in key 0 (items_in n s) ≡ o → found_repeated (Ok (found_at o (is_repeated key (items_in n s)))) ≡ is_repeated key (items_in n s)
    at None q = sym (rw (absent-count key 0 (items_in n s) q))
    at (Some p) q = refl
