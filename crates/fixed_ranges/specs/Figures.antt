-- The texts that request 10 names, and one or more for each answer.
use Rattle.std.specs.Prelude.{◌≡◌, []}
use Rattle.std.specs.Prelude.{Some}
use Rattle.lists.specs.Bytes.{ascii}
use Rattle.values.specs.Range.{parse_range}
use Rattle.fixed_ranges.specs.Fixed.{fixed, views}
use Rattle.fixed_ranges.specs.declared.Views.TheVariants.{Agree, Differ, OnlyOurs, OnlyFixed, Neither}

pub record Figures : Type 0 where
  -- 68 there, 168 here
  pub differs : views (ascii "94,168") ≡ Differ
  pub there : fixed (ascii "94,168") ≡ Some (record { first = 94; second = 68 })
  pub here : parse_range (ascii "94,168") ≡ Some (record { least = 94; greatest = 168 })
  -- four digits and more
  pub only-ours : views (ascii "0094,168") ≡ OnlyOurs
  pub neither : views (ascii "1094,168") ≡ Neither
  -- three digits are read as written, above 255 too
  pub agrees : views (ascii "094,168") ≡ Agree
  pub above-255 : views (ascii "999,001") ≡ OnlyFixed
  -- the fixed view does not look at byte 3
  pub no-comma : views (ascii "094;168") ≡ OnlyFixed
  -- only digits lead; spaces behind them are passed over by both
  pub sign : views (ascii "+94,168") ≡ OnlyOurs
  pub space : views (ascii " 94,168") ≡ OnlyOurs
  pub spaces-behind : views (ascii "94 ,68 ") ≡ Agree
  -- short texts: the bytes that there are
  pub nothing-at-4 : views (ascii "0,0") ≡ OnlyOurs
  pub last-digit : views (ascii "0,000") ≡ Agree
  pub other-last-digit : views (ascii "0,200") ≡ Differ
  pub empty : views [] ≡ Neither
