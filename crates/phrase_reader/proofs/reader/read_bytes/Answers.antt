-- Each token takes what was read a step on; what stops the reader is the refusal of the text.
use Rattle.std.proofs.Common.{ap, sym, drop, arith}
use Rattle.phrase_reader.specs.Tokens.{found}
use Rattle.phrase_reader.specs.Machine.{finished, unfit, state_of}
use Rattle.phrase_reader.proofs.Progress.{progress_start, progress_next, progress_ends, progress_rejects}
use Rattle.phrase_reader.proofs.reader.read_bytes.Goals as goal

pub tokens-init : goal.tokens-init
tokens-init c = record {
  small = c.requires;
  inside = omega arith;
  ready = sym (ap (λ s. unfit (finished s)) c.new.ensures);
  progress = progress_start c.args.text.now (state_of c.new.result) c.new.ensures;
}

pub returns-in-Err : goal.returns-in-Err
returns-in-Err c =
    progress_rejects (Unit {0}) c.args.text.now c.tokens.offset (state_of c.tokens.reader.state) c.tokens.reader.events
    c.in-Token.token c.in-Token.start (found c.in-Token.next 0 (drop c.in-Token.next c.args.text.now)) c.accept.new.self c.in-Err.error
    c.tokens.invariant.progress c.in-Token.ensures.0 c.in-Err.ensures

pub tokens-preserved : goal.tokens-preserved
tokens-preserved c = record {
  small = c.tokens.invariant.small;
  inside = c.in-Token.ensures.3;
  ready = c.in-Ok.ensures.4;
  progress =
      progress_next c.args.text.now c.tokens.offset (state_of c.tokens.reader.state) c.tokens.reader.events
      c.in-Token.token c.in-Token.start c.in-Token.next (state_of c.accept.new.self.state) c.accept.new.self.events
      c.tokens.invariant.progress c.in-Token.ensures.0 c.in-Ok.ensures.0 c.in-Ok.ensures.1 c.in-Ok.ensures.2 c.in-Ok.ensures.3;
}

pub returns-in-End : goal.returns-in-End
returns-in-End c =
    progress_ends c.args.text.now c.tokens.offset (state_of c.tokens.reader.state) c.tokens.reader.events
    c.in-End.place c.finish.result c.tokens.invariant.progress c.in-End.ensures.0 c.finish.ensures
