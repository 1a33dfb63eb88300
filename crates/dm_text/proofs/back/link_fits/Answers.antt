use Rattle.dm_text.proofs.back.link_fits.Goals as goal

pub returns : goal.returns
returns c = λ h. (
  tt,
  (
    c.process_fits.ensures.pid,
    (
      tt,
      (
        c.process_fits.ensures.byte,
        (
          tt,
          (
            c.process_fits.ensures.word,
            (
              tt,
              (
                c.pair_fits.ensures.2,
                (
                  tt,
                  (
                    c.pair_fits.ensures.0,
                    (
                      tt,
                      (
                        c.pair_fits-2.ensures.2,
                        (c.pair_fits-3.ensures.2, ((h, tt), tt)),
                      ),
                    ),
                  ),
                ),
              ),
            ),
          ),
        ),
      ),
    ),
  ),
)
