use Rattle.dn_records.proofs.Words.{default_writer, fields_text, record_of, take, vec_capacity, ◌++◌, ◌≡◌, ◌≤◌}
use Rattle.dn_records.proofs.append.append_rest.Given as goal

-- the text is what it was and the fields so far
abbrev pub invariant-loop-field : goal.invariant-loop-field
invariant-loop-field l = record {
  text : l.text.items ≡ l.fn.text.items ++ fields_text default_writer (record_of (take l.field-index l.fields));
  capacity : vec_capacity l.fn.text ≤ vec_capacity l.text;
}
