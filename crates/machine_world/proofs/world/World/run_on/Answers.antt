use Rattle.std.proofs.Common.{◌≡◌, ◌∙◌, ap, subst}
use Rattle.machine_tables.specs.Row.{Local, Deed}
use Rattle.avm_core.specs.Machine.{setting_of}
use Rattle.machine_world.specs.declared.world.World.{World}
use Rattle.machine_world.specs.Answers.{SendsTo, IsUnchanged}
use Rattle.machine_world.specs.Calls.{WaitsFor, SettlesAs, runner_at}
use Rattle.machine_world.proofs.DoesLemmas.{does-so}
use Rattle.machine_world.proofs.MayLemmas.{may-fit, may-allow}
use Rattle.machine_world.proofs.RunLemmas.{runs-at, its-name, its-stands, its-within, spare-enough, mid-is, mid-world, mid-runs, mid-can, mid-room, mid-unchanged, mid-sent, moves-whole, waits-map, sends-map}
use Rattle.machine_world.proofs.world.World.run_on.Goals as goal

pub step_at-stepped-requires-clause-within : goal.step_at-stepped-requires-clause-within
step_at-stepped-requires-clause-within c =
    let old = c.args.self.now in
    let keys = c.args.keys.now in
    let name = c.args.name in
    let index = c.index_of-index.result in
    let w = c.requires.world in
    let at = runs-at keys old name index w c.requires.running c.index_of-index.ensures in
    at.within

pub step_at-stepped-requires-clause-stands : goal.step_at-stepped-requires-clause-stands
step_at-stepped-requires-clause-stands c =
    let old = c.args.self.now in
    let keys = c.args.keys.now in
    let name = c.args.name in
    let index = c.index_of-index.result in
    let w = c.requires.world in
    let at = runs-at keys old name index w c.requires.running c.index_of-index.ensures in
    its-stands keys old name index w at

pub step_at-stepped-requires-clause-fits : goal.step_at-stepped-requires-clause-fits
step_at-stepped-requires-clause-fits c =
    let old = c.args.self.now in
    let keys = c.args.keys.now in
    let name = c.args.name in
    let index = c.index_of-index.result in
    let w = c.requires.world in
    let at = runs-at keys old name index w c.requires.running c.index_of-index.ensures in
    let nonce = c.args.nonce.now in
    let named = its-name keys old name index w at in
    let within = its-within keys old name index w at in
    may-fit keys nonce old name index at named within c.requires.may_run.0 c.requires.may_run.1

pub step_at-stepped-requires-clause-spare : goal.step_at-stepped-requires-clause-spare
step_at-stepped-requires-clause-spare c =
    let old = c.args.self.now in
    let keys = c.args.keys.now in
    let name = c.args.name in
    let index = c.index_of-index.result in
    let w = c.requires.world in
    let at = runs-at keys old name index w c.requires.running c.index_of-index.ensures in
    let nonce = c.args.nonce.now in
    let named = its-name keys old name index w at in
    let within = its-within keys old name index w at in
    spare-enough keys nonce old name index at w named within c.requires.room

pub settle-requires-clause-world : goal.settle-requires-clause-world
settle-requires-clause-world c =
    let old = c.args.self.now in
    let keys = c.args.keys.now in
    let name = c.args.name in
    let index = c.index_of-index.result in
    let w = c.requires.world in
    let at = runs-at keys old name index w c.requires.running c.index_of-index.ensures in
    let nonce = c.args.nonce.now in
    let named = its-name keys old name index w at in
    let within = its-within keys old name index w at in
    let stepped = c.step_at-stepped.result in
    let mid = c.step_at-stepped.new.self in
    let did = c.step_at-stepped.ensures in
    let is = mid-is old mid index did.rest did.runners in
    (keys, mid-world keys nonce old name index at w named within mid stepped did.steps did.remote is did.stands)

pub settle-requires-clause-at : goal.settle-requires-clause-at
settle-requires-clause-at c =
    let old = c.args.self.now in
    let keys = c.args.keys.now in
    let name = c.args.name in
    let index = c.index_of-index.result in
    let w = c.requires.world in
    let at = runs-at keys old name index w c.requires.running c.index_of-index.ensures in
    let nonce = c.args.nonce.now in
    let named = its-name keys old name index w at in
    let within = its-within keys old name index w at in
    let stepped = c.step_at-stepped.result in
    let mid = c.step_at-stepped.new.self in
    let did = c.step_at-stepped.ensures in
    let is = mid-is old mid index did.rest did.runners in
    mid-runs keys nonce old name index at w named within mid stepped did.steps did.remote is

pub settle-requires-clause-can : goal.settle-requires-clause-can
settle-requires-clause-can c =
    let old = c.args.self.now in
    let keys = c.args.keys.now in
    let name = c.args.name in
    let index = c.index_of-index.result in
    let w = c.requires.world in
    let at = runs-at keys old name index w c.requires.running c.index_of-index.ensures in
    let nonce = c.args.nonce.now in
    let named = its-name keys old name index w at in
    let within = its-within keys old name index w at in
    let stepped = c.step_at-stepped.result in
    let mid = c.step_at-stepped.new.self in
    let did = c.step_at-stepped.ensures in
    let is = mid-is old mid index did.rest did.runners in
    mid-can keys nonce old name index at w named within mid stepped did.steps did.remote is (may-allow keys nonce old name index at named within c.requires.may_run.0 c.requires.may_run.1) did.awaits

pub settle-requires-clause-room : goal.settle-requires-clause-room
settle-requires-clause-room c =
    let old = c.args.self.now in
    let keys = c.args.keys.now in
    let name = c.args.name in
    let index = c.index_of-index.result in
    let w = c.requires.world in
    let at = runs-at keys old name index w c.requires.running c.index_of-index.ensures in
    let nonce = c.args.nonce.now in
    let named = its-name keys old name index w at in
    let within = its-within keys old name index w at in
    let stepped = c.step_at-stepped.result in
    let mid = c.step_at-stepped.new.self in
    let did = c.step_at-stepped.ensures in
    let is = mid-is old mid index did.rest did.runners in
    mid-room keys nonce old name index at w named within mid stepped did.steps did.remote is c.requires.room

pub returns-clause-moves : goal.returns-clause-moves
returns-clause-moves c = λ book pass opened.
    let old = c.args.self.now in
    let keys = c.args.keys.now in
    let name = c.args.name in
    let index = c.index_of-index.result in
    let w = c.requires.world in
    let at = runs-at keys old name index w c.requires.running c.index_of-index.ensures in
    let nonce = c.args.nonce.now in
    let named = its-name keys old name index w at in
    let within = its-within keys old name index w at in
    let stepped = c.step_at-stepped.result in
    let mid = c.step_at-stepped.new.self in
    let did = c.step_at-stepped.ensures in
    let is = mid-is old mid index did.rest did.runners in
    moves-whole keys nonce old name index at w named within mid stepped did.steps did.remote is pass book opened ∙ c.settle.ensures.moves book pass opened

pub returns-clause-waits : goal.returns-clause-waits
returns-clause-waits c =
    let old = c.args.self.now in
    let keys = c.args.keys.now in
    let name = c.args.name in
    let index = c.index_of-index.result in
    let w = c.requires.world in
    let at = runs-at keys old name index w c.requires.running c.index_of-index.ensures in
    let nonce = c.args.nonce.now in
    let named = its-name keys old name index w at in
    let within = its-within keys old name index w at in
    let stepped = c.step_at-stepped.result in
    let mid = c.step_at-stepped.new.self in
    let did = c.step_at-stepped.ensures in
    let is = mid-is old mid index did.rest did.runners in
    waits-map c.settle.result ((c.settle.new.self ≡ mid) × WaitsFor stepped) (IsUnchanged old c.settle.new.self) (mid-unchanged keys nonce old name index at w named within mid stepped did.steps did.remote is c.settle.new.self) c.settle.ensures.waits

pub returns-clause-sends : goal.returns-clause-sends
returns-clause-sends c =
    let old = c.args.self.now in
    let keys = c.args.keys.now in
    let name = c.args.name in
    let index = c.index_of-index.result in
    let w = c.requires.world in
    let at = runs-at keys old name index w c.requires.running c.index_of-index.ensures in
    let nonce = c.args.nonce.now in
    let named = its-name keys old name index w at in
    let within = its-within keys old name index w at in
    let stepped = c.step_at-stepped.result in
    let mid = c.step_at-stepped.new.self in
    let did = c.step_at-stepped.ensures in
    let is = mid-is old mid index did.rest did.runners in
    sends-map c.settle.result (SendsTo mid c.settle.new.self) (SendsTo old c.settle.new.self) (mid-sent keys nonce old name index at w named within mid stepped did.steps did.remote is c.settle.new.self) c.settle.ensures.sends

pub returns-clause-world : goal.returns-clause-world
returns-clause-world c =
    let old = c.args.self.now in
    let keys = c.args.keys.now in
    let name = c.args.name in
    let index = c.index_of-index.result in
    let w = c.requires.world in
    let at = runs-at keys old name index w c.requires.running c.index_of-index.ensures in
    let nonce = c.args.nonce.now in
    let named = its-name keys old name index w at in
    let within = its-within keys old name index w at in
    let stepped = c.step_at-stepped.result in
    let mid = c.step_at-stepped.new.self in
    let did = c.step_at-stepped.ensures in
    let is = mid-is old mid index did.rest did.runners in
    c.settle.ensures.world keys (mid-world keys nonce old name index at w named within mid stepped did.steps did.remote is did.stands)

pub returns-clause-does : goal.returns-clause-does
returns-clause-does c =
    let old = c.args.self.now in
    let keys = c.args.keys.now in
    let name = c.args.name in
    let index = c.index_of-index.result in
    let w = c.requires.world in
    let at = runs-at keys old name index w c.requires.running c.index_of-index.ensures in
    let within = its-within keys old name index w at in
    let stepped = c.step_at-stepped.result in
    let mid = c.step_at-stepped.new.self in
    let did = c.step_at-stepped.ensures in
    let machine = (runner_at old index).machine in
    does-so (setting_of old.program keys c.args.nonce.now machine.name) old name index at within mid.store.values stepped c.settle.result
    (ap (λ (p : Deed × Local). p.0) did.steps.made)
    (subst (λ (w : World). SettlesAs w.places.items stepped c.settle.result) did.rest c.settle.ensures.settles)
