pub mod Numbers  -- which words are numbers
pub mod Texts  -- words that are joined are printed one behind the other
pub mod Together  -- words and lines that are read one after the other
pub mod Values  -- what is proposed: a number, or the hexadecimal text of bytes
pub mod Written  -- statements that are written, one to a line, are read again
