use Rattle.std.proofs.Common.{◌≡◌, take, encode_utf8_all, string_bytes}
use Rattle.iv_text.proofs.text.Text.to_utf8.Given as goal

abbrev pub invariant-loop-c : goal.invariant-loop-c
invariant-loop-c l = string_bytes l.out ≡ encode_utf8_all (take l.c-index l.c-items)
