-- The ports of standard input and output, by what they hold.
use Rattle.std.specs.Prelude.{◌≡◌, ◌+◌, ℕ, min, Result, Ok, Err}
use Rattle.byte_ports.specs.Port.{last_count}
use Rattle.byte_ports.specs.declared.standard.StdSource.{StdSource}
use Rattle.byte_ports.specs.declared.standard.StdSink.{StdSink}

-- the reader that a source reads, and how many faults it met
abbrev pub reader_of : {R : Type 0} → StdSource R → R
reader_of source = source.reader

abbrev pub source_faults : {R : Type 0} → StdSource R → ℕ
source_faults source = source.faults

-- the writer that a sink writes, and how many faults it met
abbrev pub writer_of : {W : Type 0} → StdSink W → W
writer_of sink = sink.writer

abbrev pub sink_faults : {W : Type 0} → StdSink W → ℕ
sink_faults sink = sink.faults

-- the count of faults after a call: one more after a fault, up to its last number, and else the same
abbrev pub CountsFaults : {A E : Type 0} → ℕ → ℕ → Result A E → Type 0
CountsFaults old new (Ok done) = new ≡ old
CountsFaults old new (Err fault) = new ≡ min (old + 1) last_count
