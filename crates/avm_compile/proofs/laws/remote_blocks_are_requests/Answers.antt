use Rattle.avm_compile.proofs.RemoteLaws.{remote_blocks_are_requests as law}
use Rattle.avm_compile.proofs.laws.remote_blocks_are_requests.Goals as goal

pub returns : goal.returns
returns c = law
