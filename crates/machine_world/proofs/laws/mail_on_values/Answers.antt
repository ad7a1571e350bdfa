use Rattle.machine_world.proofs.MailFrames.{requests-posted, requests-taken, reply-came, reply-went, mail-grows, replies-grow}
use Rattle.machine_world.proofs.laws.mail_on_values.Goals as goal

pub returns-clause-posted : goal.returns-clause-posted
returns-clause-posted c = requests-posted

pub returns-clause-taken : goal.returns-clause-taken
returns-clause-taken c = requests-taken

pub returns-clause-answered : goal.returns-clause-answered
returns-clause-answered c = reply-came

pub returns-clause-replied : goal.returns-clause-replied
returns-clause-replied c = reply-went

pub returns-clause-requests_stay : goal.returns-clause-requests_stay
returns-clause-requests_stay c = mail-grows

pub returns-clause-replies_stay : goal.returns-clause-replies_stay
returns-clause-replies_stay c = replies-grow
