use Rattle.std.proofs.Common.{◌≡◌, ◌≤◌, ◌+◌, ◌*◌, ◌++◌, drop, length}
use Rattle.mt_text.specs.Canonical.{text_of, requests_pieces}
use Rattle.mt_text.proofs.line_text.push_requests.Given as goal

abbrev pub invariant-loop-request : goal.invariant-loop-request
invariant-loop-request l = record {
  text : l.out.items ++ text_of (requests_pieces l.width (drop l.request-index l.requests)) ≡ l.initial.out.items ++ text_of (requests_pieces l.width l.requests);
  short : length l.out.items ≤ length l.initial.out.items + 358 * l.request-index;
}
