use mathlib.Core.Path.{ap, ◌∙◌}
use Prim.Native.Nat.{◌/◌, ◌%◌}
use Rattle.std.proofs.Common.{rules}
use Rattle.plan.specs.Fields.{role_in, ports_in, source_in, handler_in, entry}
use Rattle.plan.specs.Header.{header_in, same-header}
use Rattle.plan.specs.Refusals.{device_block}
use Rattle.planfile.proofs.Plans.{core-of}
use Rattle.planfile.proofs.Made.{made-table}
use Rattle.planfile.proofs.build.Blocks.core.Goals as goal

pub returns : goal.returns
returns c =
    let file = c.args.self.now.file.now in
    let role = c.each-role.ensures in
    let ports = c.each-ports.ensures in
    let source = c.each-source.ensures in
    let handler = c.each-handler.ensures in
    let permissions = c.each-permissions.ensures in
    core-of file (same-header c.read-header.ensures ∙ ap header_in c.of.ensures)
    (made-table (λ d. role_in (device_block file d)) role.long (λ k h. let e = role.made k h in search rules) role.absent)
    (made-table (λ d. ports_in (device_block file d)) ports.long (λ k h. let e = ports.made k h in search rules) ports.absent)
    (made-table (λ d. source_in (device_block file d)) source.long (λ k h. let e = source.made k h in search rules) source.absent)
    (made-table (λ d. handler_in (device_block file d)) handler.long (λ k h. let e = handler.made k h in search rules) handler.absent)
    (made-table (λ q. entry (device_block file (q / 8)) (q % 8) 2) permissions.long (λ k h. let e = permissions.made k h in search rules) permissions.absent)
    c.core_with.ensures
