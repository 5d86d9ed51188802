-- Stems that a cache holds.
use Rattle.std.proofs.Common.{◌≡◌, None, Some, sym, ◌∙◌, subst}
use Rattle.std.proofs.lemmas.Option.{none-some}
use Rattle.elasticlunr_error.specs.Text.{Text, text_of}
use Rattle.elasticlunr_stem_tables.specs.declared.language.Language.{Language}
use Rattle.elasticlunr_stem_tables.specs.declared.language.Version.{Version}
use Rattle.elasticlunr_stem_cache.specs.declared.cache.Entry.{Entry}
use Rattle.elasticlunr_stem_cache.specs.Entries.{IsRight}
use Rattle.elasticlunr_stem_cache.specs.Tables.{IsStem}

-- a slot in which nothing stands
pub none_right : (language : Language) (version : Version) → IsRight language version None
none_right language version entry is = absurd (none-some _ is)

-- the same table
pub by_same : {old new language : Language} {from to version : Version} (word stem : Text)
    → new ≡ old → old ≡ language → to ≡ from → from ≡ version
    → IsStem language version word stem → IsStem new to word stem
by_same {new = new} {version = version} word stem kept own kept_too own_too is =
    subst (λ to. IsStem new to word stem) (sym (kept_too ∙ own_too))
    (subst (λ new. IsStem new version word stem) (sym (kept ∙ own)) is)

same_entry : (a b : Entry) → Some a ≡ Some b → a ≡ b
same_entry a b e = cc

-- a slot in which a word stands with its stem
pub some_right : (language : Language) (version : Version) (entry : Entry)
    → IsStem language version (text_of entry.word) (text_of entry.stem) → IsRight language version (Some entry)
some_right language version entry is other same =
    subst (λ e. IsStem language version (text_of e.word) (text_of e.stem)) (same_entry entry other same) is
