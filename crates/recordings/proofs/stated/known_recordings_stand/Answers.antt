use Rattle.recordings.proofs.Reproduces.{reproduced}
use Rattle.recordings.proofs.stated.known_recordings_stand.Goals as goal

pub returns : goal.returns
returns c = reproduced
