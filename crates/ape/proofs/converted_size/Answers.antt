-- An item has nine bytes besides its texts.
use native.Mathlib.Omega.{arith}
use mathlib.Core.Path.{◌≡◌}
use Rattle.std.specs.Prelude.{None}
use borrow.Author.Rules.{rules}
use Rattle.lossy.specs.Lossy.{lossy}
use Rattle.items.specs.Items.{item_bytes}
use Rattle.items.proofs.Area.{length-item}
use Rattle.ape.specs.Tag.{read_value, converted}
use Rattle.ape.proofs.Sizing.{fits_told, none_told, tell-fits, tell_none}
use Rattle.ape.proofs.converted_size.Goals as goal

pub returns-in_err-a : goal.returns-in_err-a
returns-in_err-a c =
    let g = c.args in
    let t = converted g.flags g.key.now g.value.now in
    let r : c.from_residual.result ≡ None = search rules in
    rw r (tell_none (item_bytes t) g.room (omega (arith, length-item t, none_told (lossy g.key.now) g.room c.lossy_within.ensures c.in_err-a.was)))

pub overflow_sub-room : goal.overflow_sub-room
overflow_sub-room c =
    let g = c.args in
    omega (arith, fits_told (lossy g.key.now) g.room c.lossy_within.ensures c.in_ok-a.was)

pub returns-in_err-b : goal.returns-in_err-b
returns-in_err-b c =
    let g = c.args in
    let t = converted g.flags g.key.now g.value.now in
    let a = fits_told (lossy g.key.now) g.room c.lossy_within.ensures c.in_ok-a.was in
    let r : c.from_residual-in_err-b.result ≡ None = search rules in
    rw r (tell_none (item_bytes t) g.room (omega (arith, length-item t, none_told (read_value g.flags g.value.now) _ c.value_size.ensures c.in_err-b.was)))

pub overflow_add-n : goal.overflow_add-n
overflow_add-n c =
    let g = c.args in
    let a = fits_told (lossy g.key.now) g.room c.lossy_within.ensures c.in_ok-a.was in
    let b = fits_told (read_value g.flags g.value.now) _ c.value_size.ensures c.in_ok-b.was in
    omega (arith, c.ranges.room)

pub overflow_sub-room-2 : goal.overflow_sub-room-2
overflow_sub-room-2 c =
    let g = c.args in
    let a = fits_told (lossy g.key.now) g.room c.lossy_within.ensures c.in_ok-a.was in
    let b = fits_told (read_value g.flags g.value.now) _ c.value_size.ensures c.in_ok-b.was in
    omega arith

pub returns-then-room-n-lt9 : goal.returns-then-room-n-lt9
returns-then-room-n-lt9 c =
    let g = c.args in
    let t = converted g.flags g.key.now g.value.now in
    let a = fits_told (lossy g.key.now) g.room c.lossy_within.ensures c.in_ok-a.was in
    let b = fits_told (read_value g.flags g.value.now) _ c.value_size.ensures c.in_ok-b.was in
    tell_none (item_bytes t) g.room (omega (arith, length-item t))

pub returns : goal.returns
returns c =
    let g = c.args in
    let t = converted g.flags g.key.now g.value.now in
    let a = fits_told (lossy g.key.now) g.room c.lossy_within.ensures c.in_ok-a.was in
    let b = fits_told (read_value g.flags g.value.now) _ c.value_size.ensures c.in_ok-b.was in
    tell-fits (item_bytes t) g.room _ (omega (arith, length-item t)) (omega (arith, length-item t))
