-- The room in which level makes its items is what the two limits come to.
use Prim.Native.Nat.{◌+◌, ◌*◌}
use mathlib.Core.Path.{◌≡◌, refl}
use Rattle.replies.specs.Limits.{count_limit, area_limit}
use Rattle.level.specs.declared.TheConstants.{SCRATCH}

-- each of the items may grow by 32 bytes, and two more come
pub room-of-the-limits : area_limit + 32 * count_limit + 76 ≡ SCRATCH
room-of-the-limits = refl
