use Rattle.image_file.proofs.PieceWords.{first_word, second_word}
use Rattle.image_file.proofs.pieces.read_bridge.Goals as goal

pub returns-clause-first : goal.returns-clause-first
returns-clause-first g c file tells = first_word file c.read_piece.new.words c.args.at c.read_piece.auto.words (c.in_ok-read_piece.ensures.read file tells)

pub returns-clause-second : goal.returns-clause-second
returns-clause-second g c file tells = second_word file c.read_piece.new.words c.args.at c.read_piece.auto.words (c.in_ok-read_piece.ensures.read file tells)
