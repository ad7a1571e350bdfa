-- Readers and writers that try again, by what they read and write.
use Rattle.retrying_io.specs.declared.reader.RetryingReader.{RetryingReader}
use Rattle.retrying_io.specs.declared.writer.RetryingWriter.{RetryingWriter}

-- the reader that is read
abbrev pub reader_of : {R : Type 0} → RetryingReader R → R
reader_of retrying = retrying.reader

-- the writer that is written to
abbrev pub writer_of : {W : Type 0} → RetryingWriter W → W
writer_of retrying = retrying.writer
