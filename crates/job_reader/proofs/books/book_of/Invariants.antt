-- The artefacts so far are in the book.
use Rattle.std.specs.Vec.Iter.{into_iter_items, into_iter_len}
use Rattle.job_reader.specs.Testing.{IsBookOf, IsPassedTo}
use Rattle.job_reader.proofs.books.book_of.Given as goal

abbrev pub invariant-loop-artefact : goal.invariant-loop-artefact
invariant-loop-artefact l = record {
  passed : IsPassedTo (into_iter_items l.initial.artefact-iterator) l.yielded (into_iter_items l.artefact-iterator) (into_iter_len l.artefact-iterator);
  book : IsBookOf l.yielded l.book l.second;
}
