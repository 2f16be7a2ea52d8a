-- Each fault of a slice, with the rule by which it goes.
use Rattle.std.proofs.Common.{ℕ, ◌<◌, Bool, arith}
use Rattle.mt_word.specs.declared.Width.{Width}
use Rattle.mt_word.specs.declared.Width.TheVariants.{W8}
use Rattle.mt_word.specs.Word.{width_bits, has_bit}
use Rattle.mt_fault.specs.declared.fault.Fault.TheVariants.{StuckAt, CannotRise, CannotFall, Invert, Force, State, NoCell, Also, Instead}
use Rattle.mt_fault.specs.declared.fault.Spot.{Spot}
use Rattle.mt_fault.specs.Faulty.{asked}
use Rattle.mt_fault.specs.Placement.{IsWellPlaced, IsInside, IsWithin, IsSpot}
use Rattle.mt_decoder.specs.BitModel.{stuck, no_rise, no_fall, inverts, forces, holds, shared, doubled}
use Rattle.mt_cover.proofs.Below.{Laws, stuck_spots, rise_spots, fall_spots, none_spots, invert_spots, force_spots, state_spots, also_spots, instead_spots}
use Rattle.mt_cover.proofs.Models.{none, spot, bit_after, stored_bit, stuck_model, rise_model, fall_model, none_model, invert_model, force_model, state_model, also_model, instead_model}
use Rattle.mt_cover.proofs.Covered.{Slice, IsBit, IsRuled}

-- each word has a bit 0
first_bit : (width : Width) → 0 < width_bits width
first_bit W8 = omega arith
first_bit width = omega arith

module _ (laws : Laws) (s : Slice) (size : ℕ) where
  bit_in : (spot : Spot) → IsWithin s.first s.n spot.word → IsSpot s.width size spot → IsBit s spot
  bit_in spot i w = record { within = i; bit = w.1.0 }

  word_in : (a : ℕ) → IsWithin s.first s.n a → IsBit s (spot a)
  word_in a i = record { within = i; bit = first_bit s.width }

  pub stuck_ruled : (vic : Spot) (b : Bool) → IsWellPlaced s.width size (StuckAt vic b) → IsInside (StuckAt vic b) s.first s.n
      → IsRuled s (StuckAt vic b) (stuck b) vic vic
  stuck_ruled vic b w i = record {
    agg_bit = λ words. none;
    vic_bit = λ words h. b;
    model = stuck_model laws vic b;
    spots = stuck_spots vic b;
    agg_in = bit_in vic i.0 w.inside.0;
    vic_in = bit_in vic i.0 w.inside.0;
  }

  pub rise_ruled : (vic : Spot) → IsWellPlaced s.width size (CannotRise vic) → IsInside (CannotRise vic) s.first s.n
      → IsRuled s (CannotRise vic) no_rise vic vic
  rise_ruled vic w i = record {
    agg_bit = λ words. none;
    vic_bit = bit_after (CannotRise vic);
    model = rise_model laws vic;
    spots = rise_spots vic;
    agg_in = bit_in vic i.0 w.inside.0;
    vic_in = bit_in vic i.0 w.inside.0;
  }

  pub fall_ruled : (vic : Spot) → IsWellPlaced s.width size (CannotFall vic) → IsInside (CannotFall vic) s.first s.n
      → IsRuled s (CannotFall vic) no_fall vic vic
  fall_ruled vic w i = record {
    agg_bit = λ words. none;
    vic_bit = bit_after (CannotFall vic);
    model = fall_model laws vic;
    spots = fall_spots vic;
    agg_in = bit_in vic i.0 w.inside.0;
    vic_in = bit_in vic i.0 w.inside.0;
  }

  pub none_ruled : (addr seen : ℕ) → IsInside (NoCell addr seen) s.first s.n
      → IsRuled s (NoCell addr seen) (stuck (has_bit seen 0)) (spot addr) (spot addr)
  none_ruled addr seen i = record {
    agg_bit = λ words. none;
    vic_bit = λ words h. has_bit seen 0;
    model = none_model addr seen;
    spots = none_spots addr seen;
    agg_in = word_in addr i.0;
    vic_in = word_in addr i.0;
  }

  pub invert_ruled : (agg vic : Spot) (d : Bool) → IsWellPlaced s.width size (Invert agg d vic) → IsInside (Invert agg d vic) s.first s.n
      → IsRuled s (Invert agg d vic) (inverts d) agg vic
  invert_ruled agg vic d w i = record {
    agg_bit = λ words h. asked words h agg;
    vic_bit = bit_after (Invert agg d vic);
    model = λ words. invert_model laws agg vic d words w.apart;
    spots = invert_spots agg vic d;
    agg_in = bit_in agg i.0 w.inside.0;
    vic_in = bit_in vic i.1.0 w.inside.1.0;
  }

  pub force_ruled : (agg vic : Spot) (d b : Bool) → IsWellPlaced s.width size (Force agg d vic b) → IsInside (Force agg d vic b) s.first s.n
      → IsRuled s (Force agg d vic b) (forces d b) agg vic
  force_ruled agg vic d b w i = record {
    agg_bit = λ words h. asked words h agg;
    vic_bit = bit_after (Force agg d vic b);
    model = λ words. force_model laws agg vic d b words w.apart;
    spots = force_spots agg vic d b;
    agg_in = bit_in agg i.0 w.inside.0;
    vic_in = bit_in vic i.1.0 w.inside.1.0;
  }

  pub state_ruled : (agg vic : Spot) (d b : Bool) → IsWellPlaced s.width size (State agg d vic b) → IsInside (State agg d vic b) s.first s.n
      → IsRuled s (State agg d vic b) (holds d b) agg vic
  state_ruled agg vic d b w i = record {
    agg_bit = λ words h. asked words h agg;
    vic_bit = bit_after (State agg d vic b);
    model = λ words. state_model laws agg vic d b words w.apart;
    spots = state_spots agg vic d b;
    agg_in = bit_in agg i.0 w.inside.0;
    vic_in = bit_in vic i.1.0 w.inside.1.0;
  }

  pub also_ruled : (addr other : ℕ) (wired : Bool) → IsWellPlaced s.width size (Also addr other wired) → IsInside (Also addr other wired) s.first s.n
      → IsRuled s (Also addr other wired) (doubled wired) (spot other) (spot addr)
  also_ruled addr other wired w i = record {
    agg_bit = λ words. stored_bit (Also addr other wired) words other;
    vic_bit = λ words. stored_bit (Also addr other wired) words addr;
    model = λ words. also_model addr other wired words w.apart;
    spots = also_spots addr other wired;
    agg_in = word_in other i.1.0;
    vic_in = word_in addr i.0;
  }

  pub instead_ruled : (addr other : ℕ) → IsWellPlaced s.width size (Instead addr other) → IsInside (Instead addr other) s.first s.n
      → IsRuled s (Instead addr other) shared (spot other) (spot addr)
  instead_ruled addr other w i = record {
    agg_bit = λ words. stored_bit (Instead addr other) words other;
    vic_bit = λ words. none;
    model = λ words. instead_model addr other words w.apart;
    spots = instead_spots addr other;
    agg_in = word_in other i.1.0;
    vic_in = word_in addr i.0;
  }
