-- Each session is drawn behind the one before.
use Rattle.std.proofs.Common.{◌++◌, ◌∷◌, [], List, map, ap, ◌∙◌}
use Rattle.session_model.specs.Session.{Session}
use Rattle.place_check.specs.Session.{CheckedSession, session_of}
use Rattle.load_maker.proofs.SessionLemmas.{map_more, sessions_more, sessions_none}
use Rattle.load_maker.proofs.sessions.made_sessions.Goals as goal

pub loop-index-init : goal.loop-index-init
loop-index-init c =
    let none = sessions_none c.args.number c.args.draws.now in
    record { sessions = ap (λ (list : List CheckedSession). map session_of list) c.new-sessions.ensures.items ∙ none.0; from = none.1 }

pub loop-index-preserved : goal.loop-index-preserved
loop-index-preserved c =
    let at = c.loop-index in
    let more = sessions_more c.args.number at.index c.args.draws.now (map session_of at.sessions.items) at.draws at.invariant.sessions at.invariant.from in
    record {
      sessions =
          ap (λ (list : List CheckedSession). map session_of list) c.in_ok-push.ensures.items
          ∙ map_more session_of at.sessions.items c.in_ok-session.session
          ∙ ap (λ (one : Session). map session_of at.sessions.items ++ one ∷ []) c.in_ok-session.ensures.0
          ∙ more.0;
      from = c.in_ok-session.ensures.1 ∙ more.1;
    }
