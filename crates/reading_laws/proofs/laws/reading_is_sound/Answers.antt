use Rattle.reading_laws.proofs.Sound.{ReadingIsSound-holds}
use Rattle.reading_laws.proofs.laws.reading_is_sound.Goals as goal

pub returns : goal.returns
returns c = ReadingIsSound-holds
