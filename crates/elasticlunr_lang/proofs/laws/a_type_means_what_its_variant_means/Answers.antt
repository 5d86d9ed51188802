use Rattle.std.proofs.Common.{refl}
use Rattle.elasticlunr_lang.proofs.laws.a_type_means_what_its_variant_means.Goals as goal

pub returns-clause-german : goal.returns-clause-german
returns-clause-german c language = record {
  name = refl;
  code = refl;
  tokens = λ text. refl;
  stages = refl;
  leaves = λ token left. (λ h. h, λ h. h);
}
