use Rattle.collection_keys.proofs.Parts.{same_from_parts}
use Rattle.collection_keys.proofs.laws.known_by_its_parts.Goals as goal

pub returns : goal.returns
returns c = λ j k rises climbs. same_from_parts j k rises.ascending climbs.ascending
