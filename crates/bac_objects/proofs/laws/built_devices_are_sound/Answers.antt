use Rattle.bac_objects.proofs.Described.{described_sound}
use Rattle.bac_objects.proofs.laws.built_devices_are_sound.Goals as goal

pub returns : goal.returns
returns c = described_sound
