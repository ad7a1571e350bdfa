-- Once all bytes are taken, the heads are those that reading gives, and what was made of them is the value.
use Rattle.std.proofs.Common.{◌≡◌, List, ℕ, take, subst, arith}
use Rattle.std.proofs.lemmas.List.{take_all}
use Rattle.evidence_codec.specs.Scanned.{Scanned}
use Rattle.evidence_codec.proofs.MadeLemmas.{made-none, made-whole}
use Rattle.evidence_codec.proofs.decoding.read.Goals as goal

pub returns-in-Err-finish-clause-first : goal.returns-in-Err-finish-clause-first
returns-in-Err-finish-clause-first c =
    let goes = c.loop-byte.invariant.goes in
    let all : take c.loop-byte.byte-index c.args.bytes.now ≡ c.args.bytes.now = take_all c.loop-byte.byte-index c.args.bytes.now c.loop-byte-test.false in
    let scanned : Scanned c.args.either c.args.bytes.now goes.heads c.loop-byte.reader = subst (λ (t : List ℕ). Scanned c.args.either t goes.heads c.loop-byte.reader) all goes.scanned in
    rw c.bad.ensures (c.in-Err-finish.ensures c.args.either c.args.bytes.now goes.heads scanned)

pub unreachable-requires : goal.unreachable-requires
unreachable-requires c =
    let goes = c.loop-byte.invariant.goes in
    let all : take c.loop-byte.byte-index c.args.bytes.now ≡ c.args.bytes.now = take_all c.loop-byte.byte-index c.args.bytes.now c.loop-byte-test.false in
    let scanned : Scanned c.args.either c.args.bytes.now goes.heads c.loop-byte.reader = subst (λ (t : List ℕ). Scanned c.args.either t goes.heads c.loop-byte.reader) all goes.scanned in
    made-none c.args.either c.args.bytes.now c.in-Ok-finish.version goes.heads c.loop-byte.made (λ i. omega (arith, c.type_inv.bytes i))
    (c.in-Ok-finish.ensures c.args.either c.args.bytes.now goes.heads scanned) goes.made_of c.in_default.is

pub returns-clause-whole : goal.returns-clause-whole
returns-clause-whole c =
    let goes = c.loop-byte.invariant.goes in
    let all : take c.loop-byte.byte-index c.args.bytes.now ≡ c.args.bytes.now = take_all c.loop-byte.byte-index c.args.bytes.now c.loop-byte-test.false in
    let scanned : Scanned c.args.either c.args.bytes.now goes.heads c.loop-byte.reader = subst (λ (t : List ℕ). Scanned c.args.either t goes.heads c.loop-byte.reader) all goes.scanned in
    made-whole c.args.either c.args.bytes.now c.in-Ok-finish.version goes.heads c.loop-byte.made c.in-Some.value (λ i. omega (arith, c.type_inv.bytes i))
    (c.in-Ok-finish.ensures c.args.either c.args.bytes.now goes.heads scanned) goes.made_of c.in-Some.is
