use Rattle.elasticlunr_lang.proofs.WordsLemmas.{text_of-ascii}
use Rattle.elasticlunr_lang.proofs.words.ascii_word.Goals as goal

pub returns : goal.returns
returns c = text_of-ascii c.in_ok-word.word c.make_ascii_lowercase.new.self c.args.run.now c.in_ok-word.ensures.ok
    c.make_ascii_lowercase.ensures.bytes c.requires
