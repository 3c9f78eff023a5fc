-- The worked plans are such as accepted files hold.
use mathlib.Core.Path.{refl}
use Rattle.lists.specs.Table.{every}
use Rattle.plan.specs.Fields.{devices_fit, loads_fit, pair_fits, master_fits, ports_fit, masks_fit, master_is_node, bar_fits, joins, sources_fit, share_events}
use Rattle.plan.specs.Reading.{Held}
use Rattle.plan.specs.Inner.Memory.{port_right, device_right, row_right, right}
use Rattle.witness.specs.Line.{line, deaf, pair}
use Rattle.assurance.proofs.Instances.{tested-held}

pub line-held : Held line
unfolding line right row_right device_right port_right every devices_fit loads_fit pair_fits master_fits ports_fit masks_fit master_is_node bar_fits joins sources_fit share_events
line-held = tested-held line refl refl

pub deaf-held : Held deaf
unfolding deaf right row_right device_right port_right every devices_fit loads_fit pair_fits master_fits ports_fit masks_fit master_is_node bar_fits joins sources_fit share_events
deaf-held = tested-held deaf refl refl

pub pair_held : Held pair
unfolding pair right row_right device_right port_right every devices_fit loads_fit pair_fits master_fits ports_fit masks_fit master_is_node bar_fits joins sources_fit share_events
pair_held = tested-held pair refl refl
