-- Refusals of the calls that `ship` makes, as refusals of `ship`.
use Rattle.ntx_num.specs.declared.answer.Fail.{Fail}
use Rattle.ntx_num.specs.declared.answer.Fail.TheVariants.{NoMemory, Is}
use Rattle.ntx_nodes.specs.declared.trouble.Trouble.{Trouble}
use Rattle.ntx_dvi.specs.declared.full.DviFull.{DviFull}
use Rattle.ntx_ship.specs.declared.fault.ShipFault.{ShipFault}
use Rattle.ntx_ship.specs.declared.fault.ShipFault.TheVariants as fault

-- of the page
abbrev pub refused_as : Fail Trouble → Fail ShipFault
refused_as (Is why) = Is (fault.Trouble why)
refused_as NoMemory = NoMemory

-- of the DVI file
abbrev pub full_as : Fail DviFull → Fail ShipFault
full_as (Is full) = Is fault.DviFull
full_as NoMemory = NoMemory
