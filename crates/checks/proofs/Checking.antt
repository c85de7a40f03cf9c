-- Each answer of the two checks by the tests that lead to it.
use Prim.Native.Nat.{ℕ, ◌≤◌, ◌<◌}
use mathlib.Core.Path.{◌≡◌, sym, ap, ◌∙◌}
use mathlib.Core.Bool.{Bool, true, false}
use Rattle.std.specs.Prelude.{None, Some}
use mathlib.Core.List.{List}
use lib.ListN.{length}
use borrow.Author.Tests.{le-leb, lt-leb}
use Rattle.replies.specs.Refusal.{no, yes}
use Rattle.replies.specs.declared.Refusal.{Refusal}
use Rattle.replies.specs.declared.Refusal.TheVariants.{FileTooLong, StepOutOfRange, NoLeftGains, NotEditable, NoUndo, SecondUndo}
use Rattle.slip.specs.Slip.{is_step}
use Rattle.keys.specs.Keys.{undo_key}
use Rattle.items.specs.Items.{is_repeated}
use Rattle.calls.specs.Gate.{passes_gate, items_of}
use Rattle.calls.specs.Calls.{Level, stored_undo}
use Rattle.checks.specs.Checks.{next_undo_plan, level_check, undo_check}
use Rattle.checks.proofs.Stored.{Unstored, second, none}

-- ---- level

module _ (file : List ℕ) (gains : Bool) (l : Level) where
  pub level-1 : 16777216 < length file → level_check file gains l ≡ no FileTooLong
  unfolding level_check
  level-1 h = rw (lt-leb _ _ h)

  module _ (h : length file ≤ 16777216) where
    pub level-2 : is_step l.left ≡ false → level_check file gains l ≡ no StepOutOfRange
    unfolding level_check
    level-2 e = rw (le-leb _ _ h, e)

    module _ (s : is_step l.left ≡ true) where
      pub level-2-right : is_step l.right ≡ false → level_check file gains l ≡ no StepOutOfRange
      unfolding level_check
      level-2-right e = rw (le-leb _ _ h, s, e)

      module _ (t : is_step l.right ≡ true) where
        pub level-7 : gains ≡ false → level_check file gains l ≡ no NoLeftGains
        unfolding level_check
        level-7 e = rw (le-leb _ _ h, s, t, e)

        module _ (g : gains ≡ true) where
          pub level-8 : passes_gate file ≡ false → level_check file gains l ≡ no NotEditable
          unfolding level_check
          level-8 e = rw (le-leb _ _ h, s, t, g, e)

          -- what is left is up to the stored undo item
          pub level-next : passes_gate file ≡ true → level_check file gains l ≡ next_undo_plan l (items_of file)
          unfolding level_check next_undo_plan
          level-next p = rw (le-leb _ _ h, s, t, g, p)

-- ---- undo

module _ (file : List ℕ) (gains : Bool) where
  pub undo-1 : 16777216 < length file → undo_check file gains ≡ no FileTooLong
  unfolding undo_check
  undo-1 h = rw (lt-leb _ _ h)

  module _ (l : length file ≤ 16777216) where
    pub undo-7 : gains ≡ false → undo_check file gains ≡ no NoLeftGains
    unfolding undo_check
    undo-7 e = rw (le-leb _ _ l, e)

    module _ (g : gains ≡ true) where
      pub undo-8 : passes_gate file ≡ false → undo_check file gains ≡ no NotEditable
      unfolding undo_check
      undo-8 e = rw (le-leb _ _ l, g, e)

      module _ (p : passes_gate file ≡ true) where
        undo-14 : is_repeated undo_key (items_of file) ≡ true → undo_check file gains ≡ no SecondUndo
        unfolding undo_check
        undo-14 e = rw (le-leb _ _ l, g, p, e)

        undo-10 : is_repeated undo_key (items_of file) ≡ false → stored_undo (items_of file) ≡ None → undo_check file gains ≡ no NoUndo
        unfolding undo_check
        undo-10 o e = rw (le-leb _ _ l, g, p, o, e)

        pub undo-none : {r : Refusal} → Unstored (items_of file) r → undo_check file gains ≡ no r
        undo-none (second e) = undo-14 e
        undo-none (none o e) = undo-10 o e

        pub undo-ready : is_repeated undo_key (items_of file) ≡ false → (text : List ℕ) → stored_undo (items_of file) ≡ Some text → undo_check file gains ≡ yes text
        unfolding undo_check
        undo-ready o text u = rw (le-leb _ _ l, g, p, o, u)
