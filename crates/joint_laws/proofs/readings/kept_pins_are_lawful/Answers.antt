use Rattle.joint_laws.proofs.KeptPins.{kept_pins_are_lawful, kept_pins_lead_to_same}
use Rattle.joint_laws.proofs.readings.kept_pins_are_lawful.Goals as goal

pub returns : goal.returns
returns c = record { lawful = kept_pins_are_lawful; same = kept_pins_lead_to_same }
