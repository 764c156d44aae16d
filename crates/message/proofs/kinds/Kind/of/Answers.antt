-- Each arm's name is the text that it matches; `search` does not compare texts of this length with so many others.
use Rattle.std.proofs.Common.{rules, codes, sym, ap, arith}
use Rattle.std.proofs.lemmas.Slice.Eq.{text_from_reads}
use Rattle.message.specs.Names.{kind_of}
use Rattle.message.proofs.kinds.Kind.of.Goals as goal

pub returns-in-VERSION : goal.returns-in-VERSION
returns-in-VERSION c = ap kind_of (sym (text_from_reads c.args.name.now (codes "VERSION") (omega arith) (search rules)))

pub returns-in-PRODID : goal.returns-in-PRODID
returns-in-PRODID c = ap kind_of (sym (text_from_reads c.args.name.now (codes "PRODID") (omega arith) (search rules)))

pub returns-in-METHOD : goal.returns-in-METHOD
returns-in-METHOD c = ap kind_of (sym (text_from_reads c.args.name.now (codes "METHOD") (omega arith) (search rules)))

pub returns-in-DTSTAMP : goal.returns-in-DTSTAMP
returns-in-DTSTAMP c = ap kind_of (sym (text_from_reads c.args.name.now (codes "DTSTAMP") (omega arith) (search rules)))

pub returns-in-SEQUENCE : goal.returns-in-SEQUENCE
returns-in-SEQUENCE c = ap kind_of (sym (text_from_reads c.args.name.now (codes "SEQUENCE") (omega arith) (search rules)))

pub returns-in-ORGANIZER : goal.returns-in-ORGANIZER
returns-in-ORGANIZER c = ap kind_of (sym (text_from_reads c.args.name.now (codes "ORGANIZER") (omega arith) (search rules)))

pub returns-in-ATTENDEE : goal.returns-in-ATTENDEE
returns-in-ATTENDEE c = ap kind_of (sym (text_from_reads c.args.name.now (codes "ATTENDEE") (omega arith) (search rules)))

pub returns-in-SUMMARY : goal.returns-in-SUMMARY
returns-in-SUMMARY c = ap kind_of (sym (text_from_reads c.args.name.now (codes "SUMMARY") (omega arith) (search rules)))

pub returns-in-DTSTART : goal.returns-in-DTSTART
returns-in-DTSTART c = ap kind_of (sym (text_from_reads c.args.name.now (codes "DTSTART") (omega arith) (search rules)))

pub returns-in-DTEND : goal.returns-in-DTEND
returns-in-DTEND c = ap kind_of (sym (text_from_reads c.args.name.now (codes "DTEND") (omega arith) (search rules)))

pub returns-in-RDATE : goal.returns-in-RDATE
returns-in-RDATE c = ap kind_of (sym (text_from_reads c.args.name.now (codes "RDATE") (omega arith) (search rules)))

pub returns-in-STATUS : goal.returns-in-STATUS
returns-in-STATUS c = ap kind_of (sym (text_from_reads c.args.name.now (codes "STATUS") (omega arith) (search rules)))

pub returns-in-88 : goal.returns-in-88
returns-in-88 c = ap kind_of (sym (text_from_reads c.args.name.now (codes "X-BASIS") (omega arith) (search rules)))
