-- What a wrapper of a reader or writer of the standard library is seen as: that reader or writer, and whether a call
-- has failed.
use Rattle.std.specs.Prelude.{Bool}
use Rattle.dn_records.specs.declared.from_reader.FromReader.{FromReader}
use Rattle.dn_records.specs.declared.from_writer.FromWriter.{FromWriter}

abbrev pub wrapped_reader : {R : Type 0} → FromReader R → R
wrapped_reader s = s.reader

abbrev pub reader_has_failed : {R : Type 0} → FromReader R → Bool
reader_has_failed s = s.failed

abbrev pub wrapped_writer : {W : Type 0} → FromWriter W → W
wrapped_writer s = s.writer

abbrev pub writer_has_failed : {W : Type 0} → FromWriter W → Bool
writer_has_failed s = s.failed
