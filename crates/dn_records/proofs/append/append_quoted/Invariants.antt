use Rattle.dn_records.proofs.Words.{default_writer, escaped, take, vec_capacity, ◌++◌, ◌∷◌, ◌≡◌, ◌≤◌}
use Rattle.dn_records.proofs.append.append_quoted.Given as goal

-- the text is what it was, a quote and the bytes so far
abbrev pub invariant-loop-byte : goal.invariant-loop-byte
invariant-loop-byte l = record {
  text : l.text.items ≡ l.fn.text.items ++ 34 ∷ escaped default_writer (take l.byte-index l.field);
  capacity : vec_capacity l.fn.text ≤ vec_capacity l.text;
}
