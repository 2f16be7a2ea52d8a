-- Where numbers stand on a line of a picture.
use Rattle.std.specs.Prelude.{ℕ, ◌+◌, ◌*◌, ◌/◌, min, max}
use Rattle.mt_draw.specs.declared.scale.Scale.{Scale}

-- the place of a number: it is as far along the line as the number is on the way to the last one
unfoldable pub on : Scale → ℕ → ℕ
on s n = s.start + min n (max s.last 1) * s.length / max s.last 1
