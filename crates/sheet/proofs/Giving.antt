-- What the check cites by itself of what reading and writing give. Assumes nothing.
use Rattle.sheet.specs.Progress.{gives-refused, gives-short, gives-room, gives-values}

pub ruleset giving = (gives-refused, gives-short, gives-room, gives-values)
