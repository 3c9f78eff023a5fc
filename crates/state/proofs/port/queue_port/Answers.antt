-- `state::queue_port` meets its contract: the two waiting sets are stored. Assumes nothing.
use mathlib.Core.Path.{◌≡◌, sym}
use mathlib.Core.Bool.{true, false}
use Rattle.device.specs.Kinds.{kind_of}
use Rattle.device.specs.Permissions.{may_send}
use Rattle.state.specs.State.{word, put}
use Rattle.state.proofs.Queues.{kinds, queue-not, queue-stored}
use Rattle.state.proofs.port.queue_port.Goals as goal

pub returns-then-not-may_send : goal.returns-then-not-may_send
returns-then-not-may_send c =
    let no : may_send (kind_of c.args.kind) c.args.permissions ≡ false = cc in
    sym (queue-not c.args.permissions _ _ _ _ no)

pub returns : goal.returns
unfolding word put
returns c =
    let a = c.args in
    let may : may_send (kind_of a.kind) a.permissions ≡ true = cc in
    let is : c.index.result ≡ a.port = c.index.ensures.equal in
    rw is (queue-stored a.permissions (kind_of a.kind) a.k a.port a.state.now c.queued_by-after.result (kinds a.kind) may (rw is at c.queued_by-after.ensures))
