use Rattle.std.proofs.Common.{◌≡◌, ◌^◌, ◌<◌, drop}
use Rattle.std.specs.List.{list_all}
use Rattle.mt_hex.specs.Hex.{hex, is_hex}
use Rattle.mt_hex.proofs.reading.hex.Given as goal

abbrev pub invariant-loop-byte : goal.invariant-loop-byte
invariant-loop-byte l = record {
  value : hex l.n (drop l.byte-index l.bytes) ≡ hex 0 l.bytes;
  digits : list_all is_hex (drop l.byte-index l.bytes) ≡ list_all is_hex l.bytes;
  small : l.n < 16 ^ l.byte-index;
}
