use Rattle.std.proofs.Common.{◌≡◌, Bool, true, false, List, [], ◌∷◌, Option, Some, None, refl}
use Rattle.std.specs.List.{AllByRecursion}
use Rattle.mt_conf.specs.declared.config.ConfigRefusal.{ConfigRefusal}
use Rattle.mt_conf.specs.declared.config.ConfigRefusal.TheVariants.{UnknownKey as UnknownKeys, MissingKey as MissingKeys, WrongType as WrongTypes, Version, Width, Size, Word, Count, Algorithm, TransparentDestructive, BlockRange, Overlap, CellsRange, FlashRange, CopyOverlap}
use Rattle.mt_conf.specs.declared.shape.KeyRule.TheVariants.{UnknownKey, MissingKey, WrongType}
use Rattle.mt_conf.specs.Outcome.{broken, first_of, first_broken, rules_of}
use Rattle.mt_conf.proofs.AcceptedKeys.{keys_break}
use Rattle.mt_conf.proofs.AcceptedValues.{version_fits, width_fits, size_fits, words_fit, counts_fit, algorithms_fit}
use Rattle.mt_conf.proofs.AcceptedMarches.{marches_fit}
use Rattle.mt_conf.proofs.AcceptedSets.{transparent_fit, ranges_fit, overlaps_fit, tries_fit, flash_range_fits, copies_fit}
use Rattle.mt_conf.proofs.laws.each_is_accepted.Goals as goal

-- a rule that holds
holds : (b : Bool) (refusal : ConfigRefusal) → b ≡ false → broken b refusal ≡ None
holds false refusal h = refl
holds true refusal h = absurd cc

all_hold : (rules : List (Option ConfigRefusal)) → AllByRecursion (λ rule. rule ≡ None) rules → first_of rules ≡ None
all_hold [] h = refl
all_hold (None ∷ rules) h = all_hold rules h.1
all_hold (Some refusal ∷ rules) h = absurd (let impossible = h.0 in cc)

pub returns : goal.returns
unfolding first_broken
returns c = λ t config is accepted keyed its.
    all_hold (rules_of t) (
      holds _ UnknownKeys (keys_break UnknownKey t config is keyed),
      (
        holds _ MissingKeys (keys_break MissingKey t config is keyed),
        (
          holds _ WrongTypes (keys_break WrongType t config is keyed),
          (
            holds _ Version (version_fits t config is accepted),
            (
              holds _ Width (width_fits t config is accepted),
              (
                holds _ Size (size_fits t config is accepted),
                (
                  holds _ Word (words_fit t config is accepted),
                  (
                    holds _ Count (counts_fit t config is accepted),
                    (
                      holds _ Algorithm (algorithms_fit t config is accepted),
                      (
                        marches_fit c.canonical_spells.ensures.one c.refusals_are_of_texts.ensures.refused c.the_least_rule_refuses.ensures t config is accepted,
                        (
                          holds _ TransparentDestructive (transparent_fit t config is accepted),
                          (
                            holds _ BlockRange (ranges_fit t config is accepted),
                            (
                              holds _ Overlap (overlaps_fit t config is accepted),
                              (
                                holds _ CellsRange (tries_fit t config is accepted its),
                                (
                                  holds _ FlashRange (flash_range_fits t config is accepted),
                                  (holds _ CopyOverlap (copies_fit t config is accepted), tt),
                                ),
                              ),
                            ),
                          ),
                        ),
                      ),
                    ),
                  ),
                ),
              ),
            ),
          ),
        ),
      ),
    )
