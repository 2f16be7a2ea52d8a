use Rattle.std.proofs.Common.{◌≤◌, ◌^◌, arith, lit<}
use Rattle.std.proofs.Math.Nat.{pow-le-pow_right}
use Rattle.mt_hex.proofs.reading.hex.Goals as goal

pub overflow_mul-n : goal.overflow_mul-n
overflow_mul-n c =
    let few : c.loop-byte.byte-index ≤ 15 = omega arith in
    let most : 16 ^ c.loop-byte.byte-index ≤ 16 ^ 15 = pow-le-pow_right {n = 16} (lit< tt) few in
    omega arith

pub overflow_add-n : goal.overflow_add-n
overflow_add-n c =
    let few : c.loop-byte.byte-index ≤ 15 = omega arith in
    let most : 16 ^ c.loop-byte.byte-index ≤ 16 ^ 15 = pow-le-pow_right {n = 16} (lit< tt) few in
    grind arith
