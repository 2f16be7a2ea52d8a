use Rattle.mt_fls.proofs.Blocks.{bgnd_accepted}
use Rattle.mt_fls.proofs.state.Fls.group_from.Goals as goal

pub returns-clause-fits : goal.returns-clause-fits
returns-clause-fits c =
    let f = c.args.self.now in
    record {
      spans = bgnd_accepted f.setting.shape f.setting.config c.is_sound.ensures.accepted;
      running = λ some clear. c.requires.running;
      valid = c.group_len_at.ensures.valid;
      inside = c.group_len_at.ensures.inside;
    }
