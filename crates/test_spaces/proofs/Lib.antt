mod Doubted
