use Rattle.std.proofs.Common.{◌∙◌, ap, filter, length, nat_lt, refl, rules, sym, String}
use Rattle.std.proofs.lemmas.Fn.{filter_same}
use Rattle.std.proofs.lemmas.List.{length-map}
use Rattle.std.specs.declared.alloc.Global.{Global}
use Rattle.elasticlunr_text.specs.Text.{Text, text_of, texts_of}
use Rattle.elasticlunr_job.proofs.KeptWords.{map-filter}
use Rattle.elasticlunr_input.proofs.notes.longer_words.Goals as goal

pub returns : goal.returns
returns c =
    let is_longer = λ (word : Text). nat_lt c.args.longest (length word) in
    let only = filter_same _ (λ (word : String Global). is_longer (text_of word)) _
    (λ x b f k. (search rules, search rules)) c.in_ok-words.words.items c.retain.new.self.items
    c.retain.ensures.filtered in
    c.len.ensures ∙ c.retain.new.self.ok.0 ∙ sym (length-map c.retain.new.self.items text_of)
    ∙ ap length (ap texts_of only
    ∙ map-filter text_of is_longer (λ word. is_longer (text_of word)) (λ word. refl) c.in_ok-words.words.items
    ∙ ap (filter is_longer) c.in_ok-words.ensures)
