-- `areas::port::valid_words` are the defined words: from what its callees ensure. Assumes nothing.
use Rattle.areas.proofs.port.valid_words.Goals as goal

pub returns : goal.returns
returns c =
    let flags = c.flags_of.ensures in
    let got = c.get_port-w.ensures in
    record {
      words = rw (c.valid_part.ensures.words, flags, c.port_size-n.ensures, got);
      place = rw (flags, got) at c.valid_part.ensures.place;
    }
