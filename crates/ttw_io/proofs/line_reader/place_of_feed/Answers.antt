use Rattle.ttw_io.proofs.LineReaderLemmas.{feed_place}
use Rattle.ttw_io.proofs.line_reader.place_of_feed.Goals as goal

pub returns : goal.returns
returns c = feed_place c.args.text.now c.memchr.result c.memchr.ensures
