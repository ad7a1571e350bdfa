-- Reports of events that were written down outside this project: an edit of the definitions is refused
-- here.
use Rattle.std.proofs.Common.{◌≡◌, ℕ, List, [], ◌∷◌, refl, codes, true, false}
use Rattle.std.specs.Fmt.{digits}
use Rattle.phrase_tree.specs.declared.measurement.Arg.TheVariants.{Word, Number}
use Rattle.phrase_tree.specs.declared.measurement.Asp.{Asp}
use Rattle.phrase_tree.specs.declared.phrase.Split.{Split}
use Rattle.phrase_tree.specs.Term.{cpy, sig, hsh, usm, kim, leaf, at, chain, seq, par}
use Rattle.report_text.specs.Events.{events_text}

abbrev bank : List ℕ
bank = codes "bank"

abbrev q : List ℕ
q = codes "q"

abbrev measurement : List ℕ → Asp
measurement name = record { name = name; args = [] }

abbrev to_left : Split
to_left = record { left = true; right = false }

a_request_reports : events_text 0 (at q (chain (leaf (usm (measurement (codes "scan")))) (leaf sig))) bank ≡ codes "session 0 events 4\nevent 0 req q at bank\nevent 1 usm scan at q after 0\nevent 2 sig at q after 1\nevent 3 rpl q at bank after 2\n"
unfolding digits
a_request_reports = refl

requests_in_requests_report : events_text 0 (at q (at bank (at q (leaf cpy)))) bank ≡ codes "session 0 events 7\nevent 0 req q at bank\nevent 1 req bank at q after 0\nevent 2 req q at bank after 1\nevent 3 cpy at q after 2\nevent 4 rpl q at bank after 3\nevent 5 rpl bank at q after 4\nevent 6 rpl q at bank after 5\n"
unfolding digits
requests_in_requests_report = refl

a_parallel_branch_reports : events_text 12 (chain (par to_left (leaf (usm (measurement (codes "a")))) (leaf (kim q (record { name = codes "b"; args = Word (codes "x") ∷ Number 7 ∷ [] })))) (leaf hsh)) bank ≡ codes "session 12 events 5\nevent 0 split at bank\nevent 1 usm a at bank after 0\nevent 2 kim q b x 7 at bank after 0\nevent 3 join at bank after 1 2\nevent 4 hsh at bank after 3\n"
unfolding digits
a_parallel_branch_reports = refl

a_sequential_branch_reports : events_text 0 (seq to_left (leaf cpy) (leaf sig)) bank ≡ codes "session 0 events 4\nevent 0 split at bank\nevent 1 cpy at bank after 0\nevent 2 sig at bank after 1\nevent 3 join at bank after 2\n"
unfolding digits
a_sequential_branch_reports = refl
