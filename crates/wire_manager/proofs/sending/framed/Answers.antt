use Rattle.std.proofs.Common.{◌≤◌, length, refl, sym, ap, subst, false}
use Rattle.std.specs.Prelude.{Option, Some}
use Rattle.wire_frames.specs.declared.frame.TheConstants.{BUNDLE_MOST}
use Rattle.wire_manager.specs.Messages.{Message}
use Rattle.wire_manager.proofs.FramedLemmas.{ready}
use Rattle.wire_manager.proofs.sending.framed.Goals as goal

pub returns-in-Ok : goal.returns-in-Ok
returns-in-Ok c =
    let made = ready (record { reply = c.args.reply; nonce = c.args.nonce; name = c.args.name; bundle = c.args.bundle }) (record { reply = c.args.reply; name = c.args.name; arrived = false; frame = c.in-Ok.bytes }) (record { nonce = c.nonce_is_sixteen.ensures; name = c.ranges.name.fits; fits = subst (λ b. length b ≤ BUNDLE_MOST) c.items.ensures c.if-items-gt-BUNDLE_MOST.false }) refl refl c.in-Ok.ensures in (
      ap {B = Option Message} (λ b. Some (record { reply = c.args.reply; name = c.args.name; bundle = b; arrived = false })) (sym made.1),
      made.0,
    )
