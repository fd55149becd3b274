use Rattle.node_rules.proofs.OpeningLaws.{opening-well, opens}
use Rattle.node_rules.proofs.well_nodes_open_a_world.Goals as goal

pub returns-clause-opening : goal.returns-clause-opening
returns-clause-opening c limit lans nodes events first well = opens limit lans nodes events first well

pub returns-clause-sound : goal.returns-clause-sound
returns-clause-sound c limit lans nodes events first well = opening-well limit lans nodes events first well
